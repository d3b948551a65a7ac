-- The last end of the last shard of a mesh.
use Rattle.std.proofs.Common.{◌≡◌, List, [], ◌∷◌, ◌++◌, length, Option, Some, None, Vec, slice_get, refl, sym, ap, subst}
use Rattle.std.specs.declared.alloc.Global.{Global}
use Rattle.std.specs.Option.{IfSome, option_to_list}
use Rattle.shard_rings.specs.Links.{LinkState, traffic_of}
use Rattle.shard_rings.specs.Mesh.{Ends, IsMesh}
use Rattle.shard_node.specs.Links.{IsUnused}

at_last : {X : Type 0} (xs : List X) (x : X) → slice_get (xs ++ x ∷ []) (length xs) ≡ Some x
at_last [] x = refl
at_last (y ∷ ys) x = at_last ys x

pub last_unused : (shards fewer : Ends) (own : Vec LinkState Global) (rest : List LinkState) (end : Option LinkState) → shards ≡ fewer ++ own ∷ []
    → own.items ≡ rest ++ option_to_list end → IsMesh shards → IfSome end (λ x. IsUnused traffic_of x)
last_unused shards fewer own rest None of_shards of_ends mesh = tt
last_unused shards fewer own rest (Some end) of_shards of_ends mesh =
    let unused = mesh.unused (length fewer) (length rest) end (record {
      own = own;
      own_at = subst (λ l. slice_get l (length fewer) ≡ Some own) (sym of_shards) (at_last fewer own);
      end_at = subst (λ l. slice_get l (length rest) ≡ Some end) (sym of_ends) (at_last rest end);
    }) in
    record { sent = ap (λ o. o.sent) unused.0; received = ap (λ i. i.received) unused.1 }
