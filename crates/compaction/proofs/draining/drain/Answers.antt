use Rattle.std.proofs.Common.{◌≡◌, ◌≢◌, ◌+◌, ◌<◌, inl, inr, ℕ, sym, ap, ◌∙◌, subst, arith}
use Rattle.std.specs.Prelude.{None}
use Rattle.std.proofs.lemmas.Bool.{cases_eq}
use Rattle.std.proofs.lemmas.Bool.Decides.{leb_tells}
use Rattle.std.proofs.Math.Nat.{eq-or-lt_of_le}
use Rattle.regions.specs.Contents.{item_if_live, standing_at, live_at}
use Rattle.regions.specs.declared.place.Place.{Place}
use Rattle.compaction.proofs.Shut.{closed-in}
use Rattle.compaction.proofs.Moves.{same-none}
use Rattle.compaction.proofs.Drains.{some-same, drained-on, took-on, room-for}
use Rattle.compaction.proofs.draining.drain.Goals as goal

pub loop-found-preserved : goal.loop-found-preserved
loop-found-preserved g c =
    let bare = g.M.Movers.bare in let group = c.args.group in let n = c.args.source in let at = c.in-Some.found.at in let size = c.in-Some.found.size in
    let now = c.loop-found.region in let new = c.take_out.new.region in let i = c.loop-found.invariant in let e = c.take_out.ensures in let f = c.in-Some.ensures in
    let shut = closed-in now group n (i.drained.closed group n c.requires.closed) in let least = f.size.1.0 in
    let other : (a : ℕ) → a ≢ at → (let p : Place = record { segment = n; at = a } in let q : Place = record { segment = n; at = at } in p ≢ q) = λ a far h. far (ap (λ (x : Place). x.at) h) in
    let before : (a : ℕ) → a ≢ at → a < at + size → (let p : Place = record { segment = n; at = a } in live_at now p ≡ None) =
    λ a far high.
    elim (leb_tells c.loop-found.from a) [
      | inl up ↦
          elim (leb_tells at a) [
            | inl above ↦ elim (eq-or-lt_of_le above.1) [ inl h ↦ absurd (far (sym h)) | inr over ↦ ap item_if_live (f.between a over high) ]
            | inr below ↦ f.skipped.1 a up.1 below.1
          ]
      | inr under ↦ i.none a (omega arith) under.1
    ]
    in
    record {
      fits = e.fits;
      store = λ k. e.store k ∙ i.store k;
      rest = e.rest ∙ i.rest;
      drained = drained-on bare n c.args.region.now now new i.drained e.drained;
      sparse = let less = e.live in let sparse = i.sparse in omega (arith, less, sparse);
      took = took-on group n size c.args.region.now now new i.took e.took e.live i.sparse f.counted;
      start = inr (elim f.next [
        | inl there ↦
            let p : Place = record { segment = n; at = at + size } in
            inl (some-same bare (standing_at now p) (standing_at new p) (e.others p (other (at + size) (λ h. omega (arith, h, least))) shut) there)
        | inr ends ↦ inr (ends ∙ sym e.drained.end)
      ]);
      none = λ a low high.
          let p : Place = record { segment = n; at = a } in
          elim (cases_eq a at) [
            | inl here ↦ subst (λ k. let q : Place = record { segment = n; at = k } in live_at new q ≡ None) (sym here) e.dead
            | inr far ↦ same-none bare now new p (e.others p (other a far) shut) (before a far high)
          ];
    }

pub take_out-requires-clause-room : goal.take_out-requires-clause-room
take_out-requires-clause-room g c = room-for c.args.group c.args.source c.args.region.now c.loop-found.region c.requires.room c.loop-found.invariant.took

pub next_live-requires-clause-closed : goal.next_live-requires-clause-closed
next_live-requires-clause-closed g c = closed-in c.loop-found.region c.args.group c.args.source (c.loop-found.invariant.drained.closed c.args.group c.args.source c.requires.closed)
