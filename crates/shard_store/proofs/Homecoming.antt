-- Blocks that come home, one call after another.
use Rattle.std.proofs.Common.{◌≡◌, inl, inr, ℕ, suc, ◌+◌, ◌<◌, ◌≤◌, ◌^◌, true, false, cond, List, [], ◌∷◌, length, refl, sym, ap, ◌∙◌, subst, arith}
use Rattle.std.specs.Prelude.{Option, None, Some, slice_get, slice_set, is_some, All, IsNone, IfSome, IfNone, Result, Ok, Err, IfOk}
use Rattle.std.proofs.lemmas.Bool.{cases_order}
use Rattle.std.proofs.lemmas.List.Sums.{sum_by-cons}
use Rattle.foreign_list.specs.declared.piece_id.PieceId.{PieceId}
use Rattle.foreign_list.specs.Blocks.{Block}
use Rattle.shard_memory.specs.Shards.{MemoryState, ComeBack}
use Rattle.layout.specs.Counts.{raised}
use Rattle.shard_memory.specs.Tickets.{Tickets, HasIdle, BecomeIdle, tickets_out}
use Rattle.shard_memory.specs.declared.share.Share.{Share}
use Rattle.foreign_list.specs.Lists.{OwnedList}
use Rattle.row_cache.specs.Rows.{CacheState}
use Rattle.shard_store.specs.Lending.{ComeHome, TakesBack, LendsBlock}
use Rattle.shard_store.specs.Stores.{StoreState}
use Rattle.shard_store.specs.inside.Consistent.{store_of}
use Rattle.shard_store.specs.inside.Homecoming.{SameTickets, TakesHome, GivesAfter}

idle-both : (a b c : Tickets) → BecomeIdle a b → BecomeIdle b c → BecomeIdle a c
idle-both a b c first second t = elim (second t) [
  | inl same ↦ elim (first t) [ inl before ↦ inl (same ∙ before) | inr idle ↦ inr (same ∙ idle) ]
  | inr idle ↦ inr idle
]

raised-none : (n : ℕ) → n < 2 ^ 64 → n ≡ raised n 0
raised-none n small = grind (arith, small)

pub raised-both : (n a b : ℕ) → raised (raised n a) b ≡ raised n (b + a)
raised-both n a b = grind arith

-- some came home, and then others
home-both : (a b c : Tickets) (p q r : ℕ) → ComeHome a b p q → ComeHome b c q r → ComeHome a c p r
home-both a b c p q r first second = record {
  count = second.count + first.count;
  idle = idle-both a b c first.idle second.idle;
  out = let f = first.out in let s = second.out in omega (arith, f, s);
  backs = second.backs ∙ ap (λ n. raised n second.count) first.backs ∙ raised-both p first.count second.count;
}

-- a ticket that is idle stays so
pub idle-stays : (old new : Tickets) (share : Share) → BecomeIdle old new → HasIdle old share → HasIdle new share
idle-stays old new share become has = (has.0, has.1, elim (become has.0) [ inl same ↦ same ∙ has.2 | inr idle ↦ idle ])

pub takes-none : (m : MemoryState) → m.backs < 2 ^ 64 → TakesHome m m
takes-none m small = record { owner = refl; pages = refl; list = refl; home = record { count = 0; idle = λ t. inl refl; out = omega arith; backs = raised-none m.backs small }; lends = refl; looks = omega arith }

pub takes-both : (a b c : MemoryState) → TakesHome a b → TakesHome b c → TakesHome a c
takes-both a b c first second = record {
  owner = second.owner ∙ first.owner;
  pages = second.pages ∙ first.pages;
  list = second.list ∙ first.list;
  home = home-both a.lent b.lent c.lent a.backs b.backs c.backs first.home second.home;
  lends = second.lends ∙ first.lends;
  looks = let f = first.looks in let s = second.looks in omega (arith, f, s);
}

pub takes-same : (a b c : MemoryState) → TakesHome a b → SameTickets b c → TakesHome a c
takes-same a b c takes same = record {
  owner = same.owner ∙ takes.owner;
  pages = same.pages ∙ takes.pages;
  list = same.list ∙ takes.list;
  home = record {
    count = takes.home.count;
    idle = subst (BecomeIdle a.lent) (sym same.lent) takes.home.idle;
    out = ap (λ (l : Tickets). tickets_out l + takes.home.count) same.lent ∙ takes.home.out;
    backs = same.backs ∙ takes.home.backs;
  };
  lends = same.lends ∙ takes.lends;
  looks = let t = takes.looks in let s = same.looks in omega (arith, t, s);
}

pub came-back : (old new : MemoryState) (count : ℕ) → ComeBack old new count → TakesHome old new
came-back old new count c = record {
  owner = ap (λ (m : MemoryState). m.owner) c.same;
  pages = ap (λ (m : MemoryState). m.pages) c.same;
  list = ap (λ (m : MemoryState). m.list) c.same;
  home = record { count = count; idle = c.idle; out = c.out; backs = c.backs };
  lends = ap (λ (m : MemoryState). m.lends) c.same;
  looks = elim (cases_order 0 (tickets_out old.lent)) [
    | inl none ↦ (let e = c.not_taken (sym none) in omega (arith, e))
    | inr (inl some) ↦ (let e = c.take_wholes some in omega (arith, e))
    | inr (inr fell) ↦ absurd (omega (arith, fell))
  ];
}

-- no more tickets are out than there are
pub out-bound : (lent : Tickets) → tickets_out lent ≤ length lent
out-bound [] = omega arith
out-bound (None ∷ lent) = let rest = out-bound lent in let step = sum_by-cons (λ (t : Option PieceId). cond (is_some t) 1 0) None lent in omega (arith, rest, step)
out-bound (Some p ∷ lent) = let rest = out-bound lent in let step = sum_by-cons (λ (t : Option PieceId). cond (is_some t) 1 0) (Some p) lent in omega (arith, rest, step)

pub same-takes : (a b c : MemoryState) → SameTickets a b → TakesHome b c → TakesHome a c
same-takes a b c same takes = record {
  owner = takes.owner ∙ same.owner;
  pages = takes.pages ∙ same.pages;
  list = takes.list ∙ same.list;
  home = record {
    count = takes.home.count;
    idle = subst (λ (l : Tickets). BecomeIdle l c.lent) same.lent takes.home.idle;
    out = takes.home.out ∙ ap tickets_out same.lent;
    backs = takes.home.backs ∙ ap (λ n. raised n takes.home.count) same.backs;
  };
  lends = takes.lends ∙ same.lends;
  looks = let t = takes.looks in let s = same.looks in omega (arith, t, s);
}

-- `trim` lends nothing and takes nothing home
pub trimmed-same : (old new : MemoryState) → new ≡ record old { pages_out = new.pages_out; room = new.room } → SameTickets old new
trimmed-same old new same = record {
  owner = ap (λ (m : MemoryState). m.owner) same;
  pages = ap (λ (m : MemoryState). m.pages) same;
  list = ap (λ (m : MemoryState). m.list) same;
  lent = ap (λ (m : MemoryState). m.lent) same;
  lends = ap (λ (m : MemoryState). m.lends) same;
  backs = ap (λ (m : MemoryState). m.backs) same;
  looks = ap (λ (m : MemoryState). m.take_wholes) same;
}

-- nor does a segment that is given or comes back
pub segments-same : (old new : MemoryState) → new ≡ record old { segments = new.segments; pages_out = new.pages_out; room = new.room } → SameTickets old new
segments-same old new same = record {
  owner = ap (λ (m : MemoryState). m.owner) same;
  pages = ap (λ (m : MemoryState). m.pages) same;
  list = ap (λ (m : MemoryState). m.list) same;
  lent = ap (λ (m : MemoryState). m.lent) same;
  lends = ap (λ (m : MemoryState). m.lends) same;
  backs = ap (λ (m : MemoryState). m.backs) same;
  looks = ap (λ (m : MemoryState). m.take_wholes) same;
}

-- the block is given once more had come home
pub after-home : (share : Share) (size : ℕ) (a b c : MemoryState) (block : Block) → TakesHome a b → GivesAfter share size b c block → GivesAfter share size a c block
after-home share size a b c block takes given = record { before = given.before; came = takes-both a b given.before takes given.came; gives = given.gives }

pub after-same : (share : Share) (size : ℕ) (a b c : MemoryState) (block : Block) → SameTickets a b → GivesAfter share size b c block → GivesAfter share size a c block
after-same share size a b c block same given = record { before = given.before; came = same-takes a b given.before same given.came; gives = given.gives }

-- no ticket is out where all are idle
pub none-out : (lent : Tickets) → All IsNone lent → tickets_out lent ≡ 0
none-out [] all = refl
none-out (None ∷ lent) all =
    let rest = none-out lent (λ i d within. all (suc i) d (omega (arith, within))) in
    let step = sum_by-cons (λ (t : Option PieceId). cond (is_some t) 1 0) None lent in omega (arith, rest, step)
none-out (Some p ∷ lent) all = absurd (let clash : IsNone (Some p) = all 0 None (omega arith) in cc)

-- what is said of a block that may be there
pub some-map : {A : Type 0} (P Q : A → Type 0) (o : Option A) → ((a : A) → P a → Q a) → IfSome o P → IfSome o Q
some-map P Q None f h = h
some-map P Q (Some a) f h = f a h

pub none-known : {A : Type 0} (P : Type 0) (o : Option A) → is_some o ≡ false → IfNone o P → P
none-known P None e h = h
none-known P (Some a) e h = absurd (let clash : true ≡ false = e in cc)

pub none-two : {A : Type 0} (P Q R : Type 0) (o : Option A) → (P → Q → R) → IfNone o P → IfNone o Q → IfNone o R
none-two P Q R None f p q = f p q
none-two P Q R (Some a) f p q = p

pub if-none : {A : Type 0} (P Q : Type 0) (o : Option A) → (P → Q) → IfNone o P → IfNone o Q
if-none P Q None f h = f h
if-none P Q (Some a) f h = h

pub raised-small : (n by : ℕ) → raised n by < 2 ^ 64
raised-small n by = grind arith

pub takes-back : (a b : MemoryState) (old new : CacheState) → TakesHome a b → TakesBack (store_of a old) (store_of b new)
takes-back a b old new takes = record { home = takes.home; lends = takes.lends; looks = takes.looks }

pub lends-block : (share : Share) (size : ℕ) (a b : MemoryState) (old new : CacheState) (block : Block) → GivesAfter share size a b block → LendsBlock share (store_of a old) (store_of b new) block
lends-block share size a b old new block given =
    let c = given.came in let g = given.gives in
    let small : given.before.backs < 2 ^ 64 = subst (λ n. n < 2 ^ 64) (sym c.home.backs) (raised-small a.backs c.home.count) in
    record {
      before = given.before.lent;
      backs = given.before.backs;
      came = c.home;
      of_share = g.of_share;
      idle = g.idle;
      behind = record { count = 0; idle = λ t. inl (ap (λ (l : Tickets). slice_get l t) g.lent); out = let same = ap tickets_out g.lent in omega (arith, same); backs = g.backs ∙ raised-none given.before.backs small };
      lends = g.lends ∙ ap (λ n. raised n 1) c.lends;
      looks = let before = c.looks in let same = g.looks in omega (arith, before, same);
      list = g.of_list ∙ ap (λ (l : OwnedList). l.id) c.list;
      owner = g.mine ∙ c.owner;
      fresh = g.fresh;
    }

-- other bytes of the same length were written into the block
pub lends-written : (share : Share) (old new : StoreState) (block : Block) (bytes : List ℕ) → length bytes ≡ length block.piece.bytes → LendsBlock share old new block
    → LendsBlock share old new (record block { piece = record block.piece { bytes = bytes } })
lends-written share old new block bytes same h = record {
  before = h.before;
  backs = h.backs;
  came = h.came;
  of_share = h.of_share;
  idle = h.idle;
  behind = subst (λ (n : ℕ). ComeHome (slice_set h.before block.ticket (Some (record { range = block.piece.home; owner = block.piece.owner; at = block.piece.at; len = n }))) new.lent h.backs new.backs) (sym same) h.behind;
  lends = h.lends;
  looks = h.looks;
  list = h.list;
  owner = h.owner;
  fresh = h.fresh;
}

pub ok-map : {A E : Type 0} (P Q : A → Type 0) (r : Result A E) → ((a : A) → P a → Q a) → IfOk r P → IfOk r Q
ok-map P Q (Ok a) f h = f a h
ok-map P Q (Err e) f h = h
