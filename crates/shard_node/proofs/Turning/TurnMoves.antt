-- Why a turn moved, from what its steps did.
use Rattle.std.specs.Prelude.{◌==◌, not}
use Rattle.std.proofs.lemmas.Bool.Decides.{nat_tests}
use Rattle.std.proofs.Common.{◌≡◌, ℕ, ◌+◌, ◌<◌, ◌≤◌, ◌↔◌, Bool, true, false, true≢false, List, length, get_or, slice_get, Some, IsTrue, ◌||◌, inl, inr, arith, refl, sym, ap, ◌∙◌}
use Rattle.std.specs.Prelude.{◌⊎◌}
use Rattle.std.proofs.lemmas.Bool.{cases_order}
use Rattle.layout.specs.Counts.{Rose, greatest_count}
use Rattle.shard_rings.specs.Lanes.{Lanes, Traffic}
use Rattle.shard_rings.specs.declared.link.Packet.{Packet}
use Rattle.shard_node.specs.Nodes.{NodeState, PeerState}
use Rattle.shard_node.specs.Turns.{HasCause, HasMoved}
use Rattle.shard_node.specs.inside.Moves.{Frees, Goes, GoesOn, Rises, packets_of, packets_with}
use Rattle.part_lemmas.specs.Releases.{CountsOn}
use Rattle.part_lemmas.proofs.Packets.Passed.{one_rose}
use Rattle.shard_node.proofs.Standing.PeerPairs.{pair_at, pair_there}
use Rattle.part_lemmas.proofs.Packets.Releases.{counts_on}
use Rattle.shard_node.proofs.Turning.StepGoes.{all_go, packets_rise}

pub or_true : (a b : Bool) → IsTrue (a || b) → IsTrue a ⊎ IsTrue b
or_true true b is = inl refl
or_true false b is = inr is

eqb-same : (n : ℕ) → (n == n) ≡ true
eqb-same n = grind (arith, nat_tests)

-- a count that is another rose
pub rose-other : (m n : ℕ) → m ≤ n → IsTrue (not (n == m)) → m < n
rose-other m n low other = elim (cases_order m n) [
  | inl same ↦ absurd (true≢false (sym other ∙ ap not (ap (λ k. n == k) same ∙ eqb-same n)))
  | inr (inl less) ↦ less
  | inr (inr fell) ↦ absurd (omega (arith, fell, low))
]

rose-by : (more a c : ℕ) → 1 ≤ more → a ≤ greatest_count → CountsOn more a c → Rose a c
rose-by more a c some most counts =
    let e = counts most in
    elim (cases_order a c) [
      | inl same ↦ inr (omega (arith, e, same, most, some), omega (arith, e, same, most, some))
      | inr (inl less) ↦ inl less
      | inr (inr fell) ↦ absurd (omega (arith, e, fell, most, some))
    ]

module _ {L G : Type 0} (traffic : L → Traffic) (holds : G → ℕ) where
  -- more packets went over a link: the lists tell
  pub has_moved : (a b : PeerState L) → packets_with traffic a < packets_with traffic b → HasMoved traffic holds a b
  has_moved a b less =
      let sent : Lanes (List Packet) → ℕ = λ ps. length ps.requests + length ps.replies in
      let x = sent (traffic a.link).sent in
      let y = sent (traffic b.link).sent in
      let other : y ≤ x → HasMoved traffic holds a b = λ more. inr (λ same. let e = ap sent same in omega (arith, e, more, less)) in
      elim (cases_order x y) [
        | inl is ↦ other (omega (arith, is))
        | inr (inl rose) ↦ inl (λ same. let e = ap sent same in omega (arith, e, rose))
        | inr (inr fell) ↦ other (omega (arith, fell))
      ]

  pub packets_cause : (a b : NodeState L G) → length b.peers ≡ length a.peers → packets_of traffic a < packets_of traffic b → HasCause traffic holds a b
  packets_cause a b same less =
      let one = one_rose (packets_with traffic) a.peers b.peers same less in
      inr (inl (one.0, one.1, one.2, one.3, one.4, has_moved one.1 one.2 one.5))

  -- a block was released in a step, and other steps came before and behind
  pub freed_cause : (a b c d : NodeState L G) → b.peers ≡ a.peers → Goes traffic a b → Goes traffic b c → Frees traffic holds b c → Goes traffic c d → a.tally ≤ greatest_count → HasCause traffic holds a d
  freed_cause a b c d same before within frees behind most =
      let one = frees.some in
      let k = one.0 in
      let x = one.1 in
      let y = one.2 in
      let lane = one.5.0 in
      let here : slice_get a.peers k ≡ Some x = ap (λ ps. slice_get ps k) (sym same) ∙ one.3 in
      let z = get_or d.peers k y in
      let there : slice_get d.peers k ≡ Some z = pair_there _ c.peers d.peers k y behind.peers one.4 in
      let first : GoesOn traffic x y = pair_at _ b.peers c.peers k x y within.peers one.3 one.4 in
      let goes : GoesOn traffic y z = pair_at _ c.peers d.peers k y z behind.peers one.4 there in
      let low = first.more in
      elim (goes.held lane one.5.2) [
        | inl empty ↦
            let counts : CountsOn (before.tally.0 + (1 + frees.more) + behind.tally.0) a.tally d.tally =
            counts_on (before.tally.0 + (1 + frees.more)) behind.tally.0 a.tally c.tally d.tally
            (counts_on before.tally.0 (1 + frees.more) a.tally b.tally c.tally before.tally.1 frees.counts) behind.tally.1 in
            inr (inr (inr ((k, x, z, here, there, (lane, one.5.1, empty)), rose-by (before.tally.0 + (1 + frees.more) + behind.tally.0) a.tally d.tally (omega arith) most counts)))
        | inr more ↦ inr (inl (k, x, z, here, there, has_moved x z (omega (arith, more, low))))
      ]

  -- What the steps of a turn saw: `so_far` is what was seen behind each of them.
  pub record TurnSaw (a b c d e f g h : NodeState L G) (freed sent so_far_3 so_far_4 went told : Bool) : Type 0 where
    pub home : Goes traffic a b
    pub same : b.peers ≡ a.peers
    pub released : Goes traffic b c
    pub frees : IsTrue freed → Frees traffic holds b c
    pub replied : Goes traffic c d
    pub sends : IsTrue sent ↔ (packets_of traffic c < packets_of traffic d)
    pub taken : Goes traffic d e
    pub takes : IsTrue so_far_3 ↔ (IsTrue ((false || freed) || sent) ⊎ (packets_of traffic d < packets_of traffic e))
    pub served : Goes traffic e f
    pub serves : IsTrue so_far_4 ↔ (IsTrue so_far_3 ⊎ (packets_of traffic e < packets_of traffic f))
    pub gone : Goes traffic f g
    pub goes : IsTrue went ↔ Rises traffic f g
    pub byes : Goes traffic g h
    pub tells : IsTrue told ↔ (packets_of traffic g < packets_of traffic h)

  pub caused : (a b c d e f g h : NodeState L G) (freed sent so_far_3 so_far_4 went told : Bool) → TurnSaw a b c d e f g h freed sent so_far_3 so_far_4 went told
      → a.tally ≤ greatest_count → IsTrue ((so_far_4 || went) || told) → HasCause traffic holds a h
  caused a b c d e f g h freed sent so_far_3 so_far_4 went told x most is =
      let p0 = packets_rise traffic a b x.home in
      let p1 = packets_rise traffic b c x.released in
      let p2 = packets_rise traffic c d x.replied in
      let p3 = packets_rise traffic d e x.taken in
      let p4 = packets_rise traffic e f x.served in
      let p5 = packets_rise traffic f g x.gone in
      let p6 = packets_rise traffic g h x.byes in
      let d0 = x.home.done in
      let d1 = x.released.done in
      let d2 = x.replied.done in
      let d3 = x.taken.done in
      let d4 = x.served.done in
      let d6 = x.byes.done in
      let behind : Goes traffic c h =
      all_go traffic c g h (all_go traffic c f g (all_go traffic c e f (all_go traffic c d e x.replied x.taken) x.served) x.gone) x.byes in
      let long : length h.peers ≡ length a.peers = (all_go traffic a c h (all_go traffic a b c x.home x.released) behind).peers.long in
      let more : packets_of traffic a < packets_of traffic h → HasCause traffic holds a h = packets_cause a h long in
      elim (or_true (so_far_4 || went) told is) [
        | inr t ↦ more (let less = x.tells.0 t in omega (arith, less, p0, p1, p2, p3, p4, p5))
        | inl is ↦ elim (or_true so_far_4 went is) [
          | inr w ↦ elim (x.goes.0 w) [
            | inl less ↦ more (omega (arith, less, p0, p1, p2, p3, p4, p6))
            | inr less ↦ inr (inr (inl (omega (arith, less, d0, d1, d2, d3, d4, d6))))
          ]
          | inl is ↦ elim (x.serves.0 is) [
            | inr less ↦ more (omega (arith, less, p0, p1, p2, p3, p5, p6))
            | inl is ↦ elim (x.takes.0 is) [
              | inr less ↦ more (omega (arith, less, p0, p1, p2, p4, p5, p6))
              | inl is ↦ elim (or_true (false || freed) sent is) [
                | inr s ↦ more (let less = x.sends.0 s in omega (arith, less, p0, p1, p3, p4, p5, p6))
                | inl r ↦ freed_cause a b c h x.same x.home x.released (x.frees r) behind most
              ]
            ]
          ]
        ]
      ]
