-- A block that was lent is so with whatever is written into it, and whatever comes home behind it.
use Rattle.std.proofs.Common.{◌≡◌, inl, inr, ℕ, ◌+◌, List, length, sym, ap, ◌∙◌, subst, arith}
use Rattle.std.specs.Prelude.{Some, slice_set}
use Rattle.foreign_list.specs.Blocks.{Block, piece_id_of}
use Rattle.layout.specs.Counts.{raised}
use Rattle.shard_memory.specs.Tickets.{BecomeIdle, Tickets}
use Rattle.shard_memory.specs.declared.share.Share.{Share}
use Rattle.shard_store.specs.Lending.{ComeHome, LendsBlock, TakesBack, with_bytes}
use Rattle.shard_store.specs.Stores.{StoreState}

idle-both : (a b c : Tickets) → BecomeIdle a b → BecomeIdle b c → BecomeIdle a c
idle-both a b c first second t = elim (second t) [
  | inl same ↦ elim (first t) [ inl before ↦ inl (same ∙ before) | inr idle ↦ inr (same ∙ idle) ]
  | inr idle ↦ inr idle
]

raised-both : (n a b : ℕ) → raised (raised n a) b ≡ raised n (b + a)
raised-both n a b = grind arith

-- some came home, and then others
home-both : (a b c : Tickets) (p q r : ℕ) → ComeHome a b p q → ComeHome b c q r → ComeHome a c p r
home-both a b c p q r first second = record {
  count = second.count + first.count;
  idle = idle-both a b c first.idle second.idle;
  out = let f = first.out in let s = second.out in omega (arith, f, s);
  backs = second.backs ∙ ap (λ n. raised n second.count) first.backs ∙ raised-both p first.count second.count;
}

-- other bytes of the same length were written into the block
pub lends-written : (share : Share) (old new : StoreState) (block : Block) (bytes : List ℕ) → length bytes ≡ length block.piece.bytes → LendsBlock share old new block
    → LendsBlock share old new (with_bytes block bytes)
lends-written share old new block bytes same h = record {
  before = h.before;
  backs = h.backs;
  came = h.came;
  of_share = h.of_share;
  idle = h.idle;
  behind = subst (λ (n : ℕ). ComeHome (slice_set h.before block.ticket (Some (record { range = block.piece.home; owner = block.piece.owner; at = block.piece.at; len = n }))) new.lent h.backs new.backs) (sym same) h.behind;
  lends = h.lends;
  looks = h.looks;
  list = h.list;
  owner = h.owner;
  fresh = h.fresh;
}

-- others came home behind the block
pub lends-later : (share : Share) (old now new : StoreState) (block : Block) → LendsBlock share old now block → TakesBack now new → LendsBlock share old new block
lends-later share old now new block h later = record {
  before = h.before;
  backs = h.backs;
  came = h.came;
  of_share = h.of_share;
  idle = h.idle;
  behind = home-both (slice_set h.before block.ticket (Some (piece_id_of block.piece))) now.lent new.lent h.backs now.backs new.backs h.behind later.home;
  lends = later.lends ∙ h.lends;
  looks = let f = h.looks in let s = later.looks in omega (arith, f, s);
  list = h.list;
  owner = h.owner;
  fresh = h.fresh;
}
