-- The counts of a store as its blocks are lent and come home.
use Rattle.std.proofs.Common.{◌≡◌, ℕ, ◌+◌, ◌^◌, ◌<◌, cond, is_some, slice_set, Option, Some, None, sym, ap, ◌∙◌, subst, arith}
use Rattle.std.proofs.lemmas.List.Sums.{sum_by-set}
use Rattle.std.proofs.lemmas.Option.{get_or_from_slice_get, slice_get_within}
use Rattle.layout.specs.Counts.{raised}
use Rattle.foreign_list.specs.Blocks.{Block, piece_id_of}
use Rattle.foreign_list.specs.declared.piece_id.PieceId.{PieceId}
use Rattle.shard_memory.specs.Tickets.{IsIdle, Tickets, tickets_out}
use Rattle.shard_memory.specs.declared.share.Share.{Share}
use Rattle.shard_store.specs.Lending.{LendsBlock, TakesBack}
use Rattle.shard_store.specs.Stores.{StoreState}
use Rattle.shard_node.specs.inside.Shards.{IsCounted}

abbrev one_out : Option PieceId → ℕ
one_out o = cond (is_some o) 1 0

-- one ticket more is out
one_more_out : (lent : Tickets) (t : ℕ) (piece : PieceId) → IsIdle lent t → tickets_out (slice_set lent t (Some piece)) ≡ tickets_out lent + 1
one_more_out lent t piece idle =
    let set = sum_by-set one_out lent t (Some piece) None (slice_get_within lent t None idle) in
    let none = ap one_out (get_or_from_slice_get lent t None None idle) in
    omega (arith, set, none)

raised-both : (n a b : ℕ) → raised (raised n a) b ≡ raised n (b + a)
raised-both n a b = grind arith

raised-small : (n by : ℕ) → raised n by < 2 ^ 64
raised-small n by = grind arith

-- blocks came home
pub home_counted : (old new : StoreState) → TakesBack old new → IsCounted old → IsCounted new
home_counted old new came was =
    let home = came.home in
    record {
      lends = came.lends
          ∙ was.lends
          ∙ ap (raised old.backs) (sym home.out)
          ∙ sym (raised-both old.backs home.count (tickets_out new.lent))
          ∙ ap (λ n. raised n (tickets_out new.lent)) (sym home.backs);
      backs = subst (λ n. n < 2 ^ 64) (sym home.backs) (raised-small old.backs home.count);
    }

-- where a block was lent, those that came home are a count of 64 bits
pub lent_backs : (share : Share) (old new : StoreState) (block : Block) → LendsBlock share old new block → new.backs < 2 ^ 64
lent_backs share old new block lent = subst (λ n. n < 2 ^ 64) (sym lent.behind.backs) (raised-small lent.backs lent.behind.count)

-- a block was lent, and others came home before it and behind it
pub lends_counted : (share : Share) (old new : StoreState) (block : Block) → LendsBlock share old new block → IsCounted old → IsCounted new
lends_counted share old new block lent was =
    let first = lent.came in
    let later = lent.behind in
    let out = tickets_out new.lent in
    let before = first.out in
    let behind = later.out in
    let more = one_more_out lent.before block.ticket (piece_id_of block.piece) lent.idle in
    let all : 1 + tickets_out old.lent ≡ out + later.count + first.count = omega (arith, before, behind, more) in
    record {
      lends = lent.lends
          ∙ ap (λ n. raised n 1) was.lends
          ∙ raised-both old.backs (tickets_out old.lent) 1
          ∙ ap (raised old.backs) all
          ∙ sym (raised-both old.backs first.count (out + later.count))
          ∙ ap (λ n. raised n (out + later.count)) (sym first.backs)
          ∙ sym (raised-both lent.backs later.count out)
          ∙ ap (λ n. raised n out) (sym later.backs);
      backs = lent_backs share old new block lent;
    }
