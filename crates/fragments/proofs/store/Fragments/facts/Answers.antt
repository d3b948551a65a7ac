use Rattle.std.proofs.Common.{refl, subst, arith}
use Rattle.std.proofs.lemmas.List.{length-take}
use Rattle.fragments.specs.Chains.{TableState}
use Rattle.fragments.specs.Store.{StandsFor, StoreState}
use Rattle.fragments.proofs.store.Fragments.facts.Goals as goal

pub returns-clause-stands : goal.returns-clause-stands
returns-clause-stands c =
    let t : TableState = c.self.inside.tables in let i = c.self.invariant in let e = i.entries in (
      t,
      subst (λ (s : StoreState). StandsFor s t) c.self.view_is (record {
        names = (let most = e.firsts in let cut = length-take t.names t.firsts in omega (arith, most, cut));
        firsts = refl;
        chains = i.chains;
        parts = i.parts;
      }),
    )
