-- A turn that moved nothing: what held it up.
use Rattle.std.proofs.Common.{◌≡◌, ◌≢◌, ℕ, ◌-◌, ◌<◌, ◌≤◌, ◌==◌, not, Bool, true, false, true≢false, length, get_or, slice_get, Option, Some, None, IsSome, IsTrue}
use Rattle.std.proofs.Common.{inl, inr, arith, refl, sym, ap, subst, ◌∙◌}
use Rattle.std.specs.Prelude.{◌⊎◌, ◌||◌}
use Rattle.std.proofs.lemmas.Bool.{cases_order}
use Rattle.std.proofs.lemmas.Bool.Decides.{nat_tests}
use Rattle.std.proofs.lemmas.Option.{get_or_from_slice_get, slice_get_within}
use Rattle.trace_text.specs.Trace.{Trace}
use Rattle.cache_model.specs.OwnParts.{issued_parts}
use Rattle.foreign_list.specs.Blocks.{Block}
use Rattle.shard_memory.specs.Tickets.{HasIdle, Tickets}
use Rattle.shard_memory.specs.declared.share.Share.TheVariants.{Request as RequestShare, Reply as ReplyShare}
use Rattle.shard_store.specs.Lending.{LooksOnce}
use Rattle.shard_store.specs.Stores.{StoreState}
use Rattle.layout.specs.Counts.{Rose}
use Rattle.shard_rings.specs.Lanes.{Lanes, on, Traffic}
use Rattle.shard_rings.specs.declared.link.Lane.{Lane}
use Rattle.shard_rings.specs.declared.link.Lane.TheVariants.{Requests, Replies}
use Rattle.shard_node.specs.Nodes.{NodeState, PeerState}
use Rattle.shard_node.specs.declared.waiting.Waiting.{Waiting}
use Rattle.shard_node.specs.Due.{operations_for}
use Rattle.shard_node.specs.Standing.{InStanding}
use Rattle.shard_node.specs.Turns.{HasBegunAll, HasCause, IsEmpty, IsHeldUp, IsIdle, Owes, Raced}
use Rattle.shard_node.specs.inside.Moves.{ByeWaits, Goes, GoesOn, HeldUp, HoldsBack, NonePassed, RacesAll, ReplyLacks, ReplyWaits, RequestLacks, SameWith, done_in, packets_of, packets_with}
use Rattle.shard_node.proofs.Turning.HeldUps.{fewer_blocks, rose-on, same_pairs}
use Rattle.part_lemmas.proofs.Packets.Passed.{packets_same, sums_rise}
use Rattle.shard_node.proofs.Turning.PeerGoes.{goes_join}
use Rattle.shard_node.proofs.Standing.PeerPairs.{pair_at, pair_there}
use Rattle.shard_node.proofs.Standing.Peerwise.{StandsWith, each_stands}
use Rattle.shard_node.proofs.Turning.StepGoes.{packets_rise}
use Rattle.shard_node.proofs.Turning.TellsStrays.{SameTask, takes_as_many}

pub or_none : (a b : Bool) → (a || b) ≡ false → (a ≡ false) × (b ≡ false)
or_none true b none = absurd (true≢false none)
or_none false b none = (refl, none)

pub not_rose : (b : Bool) (m n : ℕ) → (m < n → IsTrue b) → b ≡ false → n ≤ m
not_rose b m n so unmet = elim (cases_order m n) [
  | inl same ↦ omega (arith, same)
  | inr (inl less) ↦ absurd (true≢false (sym (so less) ∙ unmet))
  | inr (inr more) ↦ omega (arith, more)
]

pub same-other : (m n : ℕ) → not (m == n) ≡ false → m ≡ n
same-other m n same = grind (arith, nat_tests, same)

-- a step that passes nothing at any peer
pub releases_none : {L G : Type 0} (traffic : L → Traffic) (a b : NodeState L G) → Goes traffic a b
    → ((k : ℕ) (d : PeerState L) → k < length a.peers → SameWith traffic (get_or a.peers k d) (get_or b.peers k d)) → packets_of traffic b ≤ packets_of traffic a
releases_none traffic a b goes same =
    let long = goes.peers.long in
    sums_rise (packets_with traffic) b.peers a.peers (sym long) (λ k d below.
    let s = same k d (omega (arith, long, below)) in
    let e = packets_same (traffic (get_or a.peers k d).link) (traffic (get_or b.peers k d).link) s.sent s.received in
    omega (arith, e))

pub not_true : (b : Bool) → (b ≡ true → ⊥) → b ≡ false
not_true true other = absurd (other refl)
not_true false other = refl

raced_waits : {L G : Type 0} (traffic : L → Traffic) (holds : G → ℕ) (x y : Option Block) → Raced traffic holds x y → IsSome x → IsEmpty y → ⊥
raced_waits traffic holds None y raced some empty = true≢false (sym some)
raced_waits traffic holds (Some x) None raced some empty = raced
raced_waits traffic holds (Some x) (Some y) raced some empty = let clash : Some y ≡ None = empty in cc

-- what holds the own parts back, by what it reads
abbrev BackBy : {G : Type 0} → (G → ℕ) → Trace → ℕ → ℕ → ℕ → G → G → Tickets → Type 0
BackBy holds trace n s begun gate later lent = (part : ℕ × ℕ) → slice_get (issued_parts trace n s) begun ≡ Some part
    → (((begun ≡ 0) ⊎ ((before : ℕ × ℕ) × (slice_get (issued_parts trace n s) (begun - 1) ≡ Some before) × (before.0 ≢ part.0))) × (holds gate < holds later))
    ⊎ ((part.1 ≢ s) × ¬ HasIdle lent RequestShare)

back-by : {G : Type 0} (holds : G → ℕ) (t t' : Trace) (n n' s s' b b' : ℕ) (x x' y y' : G) (l l' : Tickets) → t' ≡ t → n' ≡ n → s' ≡ s → b' ≡ b → x' ≡ x → y' ≡ y → l' ≡ l
    → BackBy holds t' n' s' b' x' y' l' → BackBy holds t n s b x y l
back-by {G} holds t t' n n' s s' b b' x x' y y' l l' et en es eb ex ey el back =
    subst (λ z. BackBy holds z n s b x y l) et
    (subst (λ z. BackBy holds t' z s b x y l) en
    (subst (λ z. BackBy holds t' n' z b x y l) es
    (subst (λ z. BackBy holds t' n' s' z x y l) eb
    (subst (λ (z : G). BackBy holds t' n' s' b' z y l) ex
    (subst (λ (z : G). BackBy holds t' n' s' b' x' z l) ey
    (subst (λ (z : Tickets). BackBy holds t' n' s' b' x' y' z) el back))))))

module _ {L G : Type 0} (traffic : L → Traffic) (holds : G → ℕ) where
  -- the peer owes a reply, as the node keeps count
  owes_so : (node : NodeState L G) (p : PeerState L) → StandsWith traffic node p → Owes traffic holds node p → 0 < p.keeps.owed
  owes_so node p stands owes =
      let operations = operations_for node.trace node.shards node.shard p.shard in
      let many : length owes.0 ≡ length stands.logged.replies = takes_as_many node.trace operations (traffic p.link).received.replies owes.0 stands.logged.replies owes.1 stands.logged.taken in
      let fewer = fewer_blocks (traffic p.link).sent.requests operations stands.asked.0 (length owes.0) stands.asked.1 owes.2 owes.3 in
      let owed = stands.logged.owed in
      omega (arith, many, fewer, owed)

  -- The steps of a turn that moved nothing.
  pub record MovedNone (a b c d e f g h : NodeState L G) : Type 0 where
    pub home : Goes traffic a b
    pub same : b ≡ record a { store = b.store }
    pub looked : LooksOnce a.store b.store
    pub released : Goes traffic b c
    pub raced : RacesAll traffic holds b c
    pub replied : Goes traffic c d
    pub replies : NonePassed traffic c d → HeldUp traffic (λ k. ReplyWaits traffic) c d
    pub taken : Goes traffic d e
    pub takes : NonePassed traffic d e → HeldUp traffic (λ k. ReplyLacks traffic) d e
    pub served : Goes traffic e f
    pub serves : NonePassed traffic e f → HeldUp traffic (λ k. RequestLacks traffic e.store.lent) e f
    pub gone : Goes traffic f g
    pub goes : HoldsBack traffic holds f g
    pub done : done_in traffic g ≤ done_in traffic f
    pub byes : Goes traffic g h
    pub tells : NonePassed traffic g h → HeldUp traffic (λ k. ByeWaits traffic holds g) g h
    pub packets : packets_of traffic h ≤ packets_of traffic a
    pub backs : h.store.backs ≡ a.store.backs
    pub task : SameTask traffic holds a f
    pub stands : InStanding traffic a
    pub stands_later : InStanding traffic f

  module _ (a b c d e f g h : NodeState L G) (x : MovedNone a b c d e f g h) where
    steps-rise : (packets_of traffic a ≤ packets_of traffic b) × (packets_of traffic b ≤ packets_of traffic c) × (packets_of traffic c ≤ packets_of traffic d) × (packets_of traffic d ≤ packets_of traffic e)
        × (packets_of traffic e ≤ packets_of traffic f) × (packets_of traffic f ≤ packets_of traffic g) × (packets_of traffic g ≤ packets_of traffic h)
    steps-rise = (packets_rise traffic a b x.home, packets_rise traffic b c x.released, packets_rise traffic c d x.replied, packets_rise traffic d e x.taken, packets_rise traffic e f x.served, packets_rise traffic f g x.gone, packets_rise traffic g h x.byes)

    quiet_cd : NonePassed traffic c d
    quiet_cd = let r = steps-rise in let p = x.packets in omega (arith, r, p)

    quiet_de : NonePassed traffic d e
    quiet_de = let r = steps-rise in let p = x.packets in omega (arith, r, p)

    quiet_ef : NonePassed traffic e f
    quiet_ef = let r = steps-rise in let p = x.packets in omega (arith, r, p)

    quiet_fg : NonePassed traffic f g
    quiet_fg = let r = steps-rise in let p = x.packets in omega (arith, r, p)

    quiet_gh : NonePassed traffic g h
    quiet_gh = let r = steps-rise in let p = x.packets in omega (arith, r, p)

    request-f : f.request ≡ a.request
    request-f = (x.serves quiet_ef).request ∙ ((x.takes quiet_de).request ∙ ((x.replies quiet_cd).request ∙ (x.raced.request ∙ ap (λ (n : NodeState L G). n.request) x.same)))

    begun-f : f.begun ≡ a.begun
    begun-f = (x.serves quiet_ef).begun ∙ ((x.takes quiet_de).begun ∙ ((x.replies quiet_cd).begun ∙ (x.raced.begun ∙ ap (λ (n : NodeState L G). n.begun) x.same)))

    gate-f : f.gate ≡ a.gate
    gate-f = (x.serves quiet_ef).gate ∙ ((x.takes quiet_de).gate ∙ ((x.replies quiet_cd).gate ∙ (x.raced.gate ∙ ap (λ (n : NodeState L G). n.gate) x.same)))

    -- where all own parts were begun as the turn began, they were before the last steps
    all-f : HasBegunAll traffic holds a → HasBegunAll traffic holds f
    all-f all = (
      begun-f ∙ (all.0 ∙ (ap (λ t. length (issued_parts t a.shards a.shard)) (sym x.task.trace)
          ∙ (ap (λ n. length (issued_parts f.trace n a.shard)) (sym x.task.shards) ∙ ap (λ s. length (issued_parts f.trace f.shards s)) (sym x.task.shard)))),
      request-f ∙ all.1,
    )

    idle-e : HasIdle h.store.lent ReplyShare → HasIdle e.store.lent ReplyShare
    idle-e has =
        let b0 = x.home.backs in
        let b1 = x.released.backs in
        let b2 = x.replied.backs in
        let b3 = x.taken.backs in
        let b4 = x.served.backs in
        let b5 = x.gone.backs in
        let b6 = x.byes.backs in
        let all = x.backs in
        subst (λ (s : StoreState). HasIdle s.lent ReplyShare) (x.serves quiet_ef).store
        (x.goes.idle x.stands_later (omega (arith, b0, b1, b2, b3, b4, b5, b6, all))
        (subst (λ (s : StoreState). HasIdle s.lent ReplyShare) (x.tells quiet_gh).store has))

    -- one peer, step by step
    module _ (k : ℕ) (p q : PeerState L) (here : slice_get a.peers k ≡ Some p) (there : slice_get h.peers k ≡ Some q) where
      at-b : slice_get b.peers k ≡ Some p
      at-b = ap (λ (n : NodeState L G). slice_get n.peers k) x.same ∙ here

      abbrev pc : PeerState L
      pc = get_or c.peers k p

      at-c : slice_get c.peers k ≡ Some pc
      at-c = pair_there _ b.peers c.peers k p x.released.peers at-b

      abbrev pd : PeerState L
      pd = get_or d.peers k pc

      at-d : slice_get d.peers k ≡ Some pd
      at-d = pair_there _ c.peers d.peers k pc x.replied.peers at-c

      abbrev pe : PeerState L
      pe = get_or e.peers k pd

      at-e : slice_get e.peers k ≡ Some pe
      at-e = pair_there _ d.peers e.peers k pd x.taken.peers at-d

      abbrev pf : PeerState L
      pf = get_or f.peers k pe

      at-f : slice_get f.peers k ≡ Some pf
      at-f = pair_there _ e.peers f.peers k pe x.served.peers at-e

      abbrev pg : PeerState L
      pg = get_or g.peers k pf

      at-g : slice_get g.peers k ≡ Some pg
      at-g = pair_there _ f.peers g.peers k pf x.gone.peers at-f

      bc : GoesOn traffic p pc
      bc = pair_at _ b.peers c.peers k p pc x.released.peers at-b at-c

      cd : GoesOn traffic pc pd
      cd = pair_at _ c.peers d.peers k pc pd x.replied.peers at-c at-d

      de : GoesOn traffic pd pe
      de = pair_at _ d.peers e.peers k pd pe x.taken.peers at-d at-e

      ef : GoesOn traffic pe pf
      ef = pair_at _ e.peers f.peers k pe pf x.served.peers at-e at-f

      fg : GoesOn traffic pf pg
      fg = pair_at _ f.peers g.peers k pf pg x.gone.peers at-f at-g

      gh : GoesOn traffic pg q
      gh = pair_at _ g.peers h.peers k pg q x.byes.peers at-g there

      raced : SameWith traffic p pc × Raced traffic holds p.held.requests pc.held.requests × Raced traffic holds p.held.replies pc.held.replies
      raced = pair_at _ b.peers c.peers k p pc x.raced.peers at-b at-c

      reply : (pd.held ≡ pc.held) × ReplyWaits traffic pc pd
      reply = pair_at _ c.peers d.peers k pc pd (x.replies quiet_cd).peers at-c at-d

      lacks : (pe.held ≡ pd.held) × ReplyLacks traffic pd pe
      lacks = pair_at _ d.peers e.peers k pd pe (x.takes quiet_de).peers at-d at-e

      asks : (pf.held ≡ pe.held) × RequestLacks traffic e.store.lent pe pf
      asks = pair_at _ e.peers f.peers k pe pf (x.serves quiet_ef).peers at-e at-f

      back : pg.held ≡ pf.held
      back = pair_at _ f.peers g.peers k pf pg x.goes.held at-f at-g

      bye : (q.held ≡ pg.held) × ByeWaits traffic holds g pg q
      bye = pair_at _ g.peers h.peers k pg q (x.tells quiet_gh).peers at-g there

      same-d : SameWith traffic pc pd
      same-d = pair_at _ c.peers d.peers k pc pd (same_pairs traffic c d x.replied quiet_cd) at-c at-d

      same-e : SameWith traffic pd pe
      same-e = pair_at _ d.peers e.peers k pd pe (same_pairs traffic d e x.taken quiet_de) at-d at-e

      same-f : SameWith traffic pe pf
      same-f = pair_at _ e.peers f.peers k pe pf (same_pairs traffic e f x.served quiet_ef) at-e at-f

      same-g : SameWith traffic pf pg
      same-g = pair_at _ f.peers g.peers k pf pg (same_pairs traffic f g x.gone quiet_fg) at-f at-g

      same-h : SameWith traffic pg q
      same-h = pair_at _ g.peers h.peers k pg q (same_pairs traffic g h x.byes quiet_gh) at-g there

      pub sent-same : (traffic q.link).sent ≡ (traffic p.link).sent
      sent-same = same-h.sent ∙ (same-g.sent ∙ (same-f.sent ∙ (same-e.sent ∙ (same-d.sent ∙ raced.0.sent))))

      pub received-same : (traffic q.link).received ≡ (traffic p.link).received
      received-same = same-h.received ∙ (same-g.received ∙ (same-f.received ∙ (same-e.received ∙ (same-d.received ∙ raced.0.received))))

      held-q : q.held ≡ pc.held
      held-q = bye.0 ∙ (back ∙ (asks.0 ∙ (lacks.0 ∙ reply.0)))

      pub raced-q : (lane : Lane) → Raced traffic holds (on lane p.held) (on lane q.held)
      raced-q Requests = subst (λ (l : Lanes (Option Block)). Raced traffic holds p.held.requests l.requests) (sym held-q) raced.1
      raced-q Replies = subst (λ (l : Lanes (Option Block)). Raced traffic holds p.held.replies l.replies) (sym held-q) raced.2

      none-c : (lane : Lane) → IsEmpty (on lane p.held) → IsEmpty (on lane pc.held)
      none-c lane none = elim (bc.held lane none) [
        | inl empty ↦ empty
        | inr more ↦ let e = packets_same (traffic p.link) (traffic pc.link) raced.0.sent raced.0.received in absurd (omega (arith, e, more))
      ]

      to-d : GoesOn traffic p pd
      to-d = goes_join traffic p pc pd bc cd

      to-e : GoesOn traffic p pe
      to-e = goes_join traffic p pd pe to-d de

      to-f : GoesOn traffic p pf
      to-f = goes_join traffic p pe pf to-e ef

      to-g : GoesOn traffic p pg
      to-g = goes_join traffic p pf pg to-f fg

      from-f : GoesOn traffic pf q
      from-f = goes_join traffic pf pg q fg gh

      from-e : GoesOn traffic pe q
      from-e = goes_join traffic pe pf q ef from-f

      from-d : GoesOn traffic pd q
      from-d = goes_join traffic pd pe q de from-e

      stands : StandsWith traffic a p
      stands = subst (λ (z : PeerState L). StandsWith traffic a z) (get_or_from_slice_get a.peers k p p here) (each_stands traffic a x.stands k p (slice_get_within a.peers k p here))

      pub held-up : IsHeldUp traffic holds a h p q
      held-up = record {
        requests_raced = raced-q Requests;
        replies_raced = raced-q Replies;
        reply = λ some.
            let l = bc.full in
            let r = from-d.full in
            rose-on _ _ _ _ (omega (arith, l)) (reply.1 (subst (λ (o : Option Block). IsSome o) (sym raced.0.reply) some)) (omega (arith, r));
        bye = λ all unsent.
            let l = to-g.full in
            let keeps = same-g.keeps ∙ (same-f.keeps ∙ (same-e.keeps ∙ (same-d.keeps ∙ raced.0.keeps))) in
            rose-on _ _ _ _ (omega (arith, l))
            (bye.1 (x.goes.all (all-f all)) (ap (λ z. z.has_sent_bye) keeps ∙ not_true p.keeps.has_sent_bye (λ is. unsent (stands.placed.told.0 is)))) (omega arith);
        no_reply = λ owes none.
            let l = to-d.empty in
            let r = from-e.empty in
            let owed = owes_so a p stands owes in
            let keeps = ap (λ z. z.owed) (same-d.keeps ∙ raced.0.keeps) in
            rose-on _ _ _ _ (omega (arith, l)) (lacks.1 (omega (arith, owed, keeps)) (ap (λ (z : Lanes (Option Block)). z.replies) reply.0 ∙ none-c Replies none)) (omega (arith, r));
        no_request = λ unheard none replied.
            let l = to-e.empty in
            let r = from-f.empty in
            let keeps = same-e.keeps ∙ (same-d.keeps ∙ raced.0.keeps) in
            elim (asks.1 (ap (λ z. z.has_heard_bye) keeps ∙ not_true p.keeps.has_heard_bye (λ is. unheard (stands.placed.heard.0 is)))
            (ap (λ (z : Lanes (Option Block)). z.requests) (lacks.0 ∙ reply.0) ∙ none-c Requests none) (same-e.reply ∙ (same-d.reply ∙ (raced.0.reply ∙ replied)))) [
              | inl rose ↦ inl (rose-on _ _ _ _ (omega (arith, l)) rose (omega (arith, r)))
              | inr idle ↦ inr (λ has. idle (idle-e has))
            ];
      }

      pub request-full : (waiting : Waiting) → (a.request ≡ Some waiting) ⊎ (h.request ≡ Some waiting) → p.shard ≡ waiting.peer
          → Rose (traffic p.link).full.requests (traffic q.link).full.requests
      request-full waiting so named =
          let l = to-f.full in
          let r = gh.full in
          let at = pair_at _ f.peers g.peers k pf pg (x.goes.request waiting (elim so [
            | inl is ↦ inl (request-f ∙ is)
            | inr is ↦ inr (sym (x.tells quiet_gh).request ∙ is)
          ])) at-f at-g in
          rose-on _ _ _ _ (omega (arith, l)) (at (to-f.shard ∙ named)) (omega (arith, r))

    nothing : HasCause traffic holds a h → ⊥
    nothing cause = elim cause [
      | inl backs ↦ let same = x.backs in omega (arith, backs, same)
      | inr (inl moved) ↦ elim moved.5 [
        | inl sent ↦ sent (sent-same moved.0 moved.1 moved.2 moved.3 moved.4)
        | inr received ↦ received (received-same moved.0 moved.1 moved.2 moved.3 moved.4)
      ]
      | inr (inr (inl done)) ↦
          let d0 = ap (λ (n : NodeState L G). done_in traffic n) x.same in
          let d1 = x.raced.done in
          let d2 = (x.replies quiet_cd).done in
          let d3 = (x.takes quiet_de).done in
          let d4 = (x.serves quiet_ef).done in
          let d5 = x.done in
          let d6 = (x.tells quiet_gh).done in
          omega (arith, done, d0, d1, d2, d3, d4, d5, d6)
      | inr (inr (inr freed)) ↦
          let one = freed.0 in
          raced_waits traffic holds (on one.5.0 one.1.held) (on one.5.0 one.2.held) (raced-q one.0 one.1 one.2 one.3 one.4 one.5.0) one.5.1 one.5.2
    ]

    pub idle : IsIdle traffic holds a h
    idle = record {
      nothing = nothing;
      peers = λ k p q here there. held-up k p q here there;
      request = λ waiting k so p q here there named. request-full k p q here there waiting so named;
      own = λ none. back-by holds a.trace f.trace a.shards f.shards a.shard f.shard a.begun f.begun a.gate f.gate h.gate g.gate h.store.lent g.store.lent
          x.task.trace x.task.shards x.task.shard begun-f gate-f (sym (x.tells quiet_gh).gate) (ap (λ (s : StoreState). s.lent) (sym (x.tells quiet_gh).store))
          (x.goes.own (sym (x.tells quiet_gh).request ∙ none));
      looked = λ out.
          let home = x.looked out in
          let l1 = x.released.looks in
          let l2 = x.replied.looks in
          let l3 = x.taken.looks in
          let l4 = x.served.looks in
          let l5 = x.gone.looks in
          let l6 = x.byes.looks in
          omega (arith, home, l1, l2, l3, l4, l5, l6);
      looked_once = λ same.
          let last = x.tells quiet_gh in
          let store = last.store ∙ (x.goes.store (sym last.request ∙ (same ∙ sym request-f))
          ∙ ((x.serves quiet_ef).store ∙ ((x.takes quiet_de).store ∙ ((x.replies quiet_cd).store ∙ x.raced.store)))) in
          subst (λ (s : StoreState). LooksOnce a.store s) (sym store) x.looked;
    }
