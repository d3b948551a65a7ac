-- Nodes are opened, the last of them first, and abandoned.
use Rattle.std.proofs.Common.{◌≡◌, ℕ, zero, suc, ◌+◌, ◌-◌, inl, inr, List, [], ◌∷◌, ◌++◌, length, Some, slice_get, sym, ap, subst, ◌∙◌, arith, length-append, append_assoc, append-nil}
use Rattle.std.specs.Prelude.{Vec}
use Rattle.std.specs.declared.alloc.Global.{Global}
use Rattle.std.proofs.lemmas.Option.{slice_get_within, same_Some}
use Rattle.trace_text.specs.Trace.{Trace}
use Rattle.foreign_list.specs.Lists.{OwnedList}
use Rattle.foreign_list.specs.OwnerSeats.{OwnerState, IsAtRest}
use Rattle.shard_rings.specs.Links.{LinkState}
use Rattle.shard_rings.specs.Mesh.{Ends, IsEnd, IsMesh}
use Rattle.shard_node.specs.Nodes.{NodeState}
use Rattle.shard_run.specs.Opening.{AreAtRest, AreLists, AreOpened, AreSeatsOf, IsLinkOf, IsOpened, links_of}
use Rattle.shard_run.specs.inside.Opening.{AreLeft, GivesBack, OpensLast}
use Rattle.common_lemmas.proofs.Orders.{lt_or_ge}
use Rattle.shard_run.proofs.Getting.{get_in_front, get_front, get_between, before_or_last, get_last, something_at}

pub seats_of_front : (homes : List OwnedList) (seats fewer : List OwnerState) (seat : OwnerState) → AreSeatsOf homes seats → seats ≡ fewer ++ seat ∷ [] → AreSeatsOf homes fewer
seats_of_front homes seats fewer seat h pop s home one at there = h s home one at (subst (λ l. slice_get l s ≡ Some one) (sym pop) (get_in_front fewer (seat ∷ []) s one there))

-- the last seat that is left is at rest
pub last_seat : (homes : List OwnedList) (seats fewer : List OwnerState) (seat : OwnerState) (home : OwnedList) → AreSeatsOf homes seats → seats ≡ fewer ++ seat ∷ []
    → slice_get homes (length fewer) ≡ Some home → IsAtRest home seat
last_seat homes seats fewer seat home h pop at = h (length fewer) home seat at (subst (λ l. slice_get l (length fewer) ≡ Some seat) (sym pop) (get_last fewer seat))

module _ {G : Type 0} (trace : Trace) (n pages : ℕ) (homes : List OwnedList) (mesh : Ends) where
  -- The seats that are left are those of the first shards, and so are the links. The nodes are those of the shards behind them.
  pub record AreOpenedFrom (left : Ends) (seats : List OwnerState) (nodes : List (NodeState LinkState G)) : Type 0 where
    pub one_each : length left ≡ length seats
    pub count : length seats + length nodes ≡ n
    pub first : (a : ℕ) (own : Vec LinkState Global) → slice_get left a ≡ Some own → slice_get mesh a ≡ Some own
    pub seated : AreSeatsOf homes seats
    pub opened : (k : ℕ) (home : OwnedList) (node : NodeState LinkState G) → slice_get homes (length seats + k) ≡ Some home → slice_get nodes k ≡ Some node
        → IsOpened trace n pages (length seats + k) home node
    pub linked : (k : ℕ) (own : Vec LinkState Global) (node : NodeState LinkState G) → slice_get mesh (length seats + k) ≡ Some own → slice_get nodes k ≡ Some node
        → links_of node ≡ own.items

  pub none_opened : (seats : List OwnerState) (nodes : List (NodeState LinkState G)) → length mesh ≡ n → length seats ≡ n → AreSeatsOf homes seats → nodes ≡ [] → AreOpenedFrom mesh seats nodes
  none_opened seats nodes ends one seated none = record {
    one_each = omega (arith, ends, one);
    count = (let e = ap length none in omega (arith, e, one));
    first = λ a own at. at;
    seated = seated;
    opened = λ k home node at there. absurd (past k node there);
    linked = λ k own node at there. absurd (past k node there);
  }
    where
      past : (k : ℕ) (node : NodeState LinkState G) → slice_get nodes k ≡ Some node → ⊥
      past k node there = let w = slice_get_within nodes k node there in let e = ap length none in omega (arith, e, w)

  -- the links that come next
  pub next_links : (left fewer : Ends) (own : Vec LinkState Global) (seats : List OwnerState) (nodes : List (NodeState LinkState G)) → AreOpenedFrom left seats nodes
      → left ≡ fewer ++ own ∷ [] → (length left ≡ length fewer + 1) × (slice_get mesh (length fewer) ≡ Some own)
  next_links left fewer own seats nodes h pop =
      (ap length pop ∙ length-append fewer (own ∷ []), h.first (length fewer) own (subst (λ l. slice_get l (length fewer) ≡ Some own) (sym pop) (get_last fewer own)))

  pub one_opened : (left fewer : Ends) (own : Vec LinkState Global) (seats later_seats : List OwnerState) (nodes later : List (NodeState LinkState G)) → AreOpenedFrom left seats nodes
      → left ≡ fewer ++ own ∷ [] → OpensLast trace n pages homes own.items seats later_seats nodes later → AreOpenedFrom fewer later_seats later
  one_opened left fewer own seats later_seats nodes later h pop o = record {
    one_each = (let e = h.one_each in omega (arith, e, ends, fewer_seats));
    count = (let c = h.count in omega (arith, c, fewer_seats, more));
    first = λ a row at. h.first a row (subst (λ l. slice_get l a ≡ Some row) (sym pop) (get_in_front fewer (own ∷ []) a row at));
    seated = seats_of_front homes seats later_seats o.seat h.seated o.fewer;
    opened = opened_at;
    linked = linked_at;
  }
    where
      ends : length left ≡ length fewer + 1
      ends = (next_links left fewer own seats nodes h pop).0

      fewer_seats : length seats ≡ length later_seats + 1
      fewer_seats = ap length o.fewer ∙ length-append later_seats (o.seat ∷ [])

      more : length later ≡ length nodes + 1
      more = let e = ap length o.more in omega (arith, e)

      same_count : length fewer ≡ length later_seats
      same_count = let e = h.one_each in omega (arith, e, ends, fewer_seats)

      opened_at : (k : ℕ) (home : OwnedList) (node : NodeState LinkState G) → slice_get homes (length later_seats + k) ≡ Some home → slice_get later k ≡ Some node
          → IsOpened trace n pages (length later_seats + k) home node
      opened_at zero home node at there =
          let first_place : length later_seats + 0 ≡ length later_seats = omega arith in
          let same : o.node ≡ node = same_Some o.node node (subst (λ l. slice_get l 0 ≡ Some node) o.more there) in
          subst (λ j. IsOpened trace n pages j home node) (sym first_place)
          (subst (λ d. IsOpened trace n pages (length later_seats) home d) same (o.opened home (subst (λ j. slice_get homes j ≡ Some home) first_place at)))
      opened_at (suc k) home node at there =
          let place : length later_seats + suc k ≡ length seats + k = omega (arith, fewer_seats) in
          subst (λ j. IsOpened trace n pages j home node) (sym place)
          (h.opened k home node (subst (λ j. slice_get homes j ≡ Some home) place at) (subst (λ l. slice_get l (suc k) ≡ Some node) o.more there))

      linked_at : (k : ℕ) (row : Vec LinkState Global) (node : NodeState LinkState G) → slice_get mesh (length later_seats + k) ≡ Some row → slice_get later k ≡ Some node
          → links_of node ≡ row.items
      linked_at zero row node at there =
          let first_place : length later_seats + 0 ≡ length fewer = omega (arith, same_count) in
          let same : o.node ≡ node = same_Some o.node node (subst (λ l. slice_get l 0 ≡ Some node) o.more there) in
          let own_same : own ≡ row = same_Some own row (sym (next_links left fewer own seats nodes h pop).1 ∙ subst (λ j. slice_get mesh j ≡ Some row) first_place at) in
          subst (λ d. links_of d ≡ row.items) same (o.links_here ∙ ap (λ (v : Vec LinkState Global). v.items) own_same)
      linked_at (suc k) row node at there =
          let place : length later_seats + suc k ≡ length seats + k = omega (arith, fewer_seats) in
          h.linked k row node (subst (λ j. slice_get mesh j ≡ Some row) place at) (subst (λ l. slice_get l (suc k) ≡ Some node) o.more there)

  pub left_of : (left : Ends) (seats : List OwnerState) (nodes : List (NodeState LinkState G)) → AreOpenedFrom left seats nodes → AreLists n homes → AreLeft n homes seats nodes
  left_of left seats nodes h lists = record {
    count = h.count;
    seated = h.seated;
    lists = λ k home node at there. (h.opened k home node at there).list;
    unturned = λ k node there.
        let w = slice_get_within nodes k node there in
        let c = h.count in
        let l = lists.count in
        let home = something_at homes (length seats + k) (omega (arith, w, c, l)) in
        (h.opened k home.0 node home.1 there).unturned;
  }

  -- once no seat is left
  pub all_opened : (left : Ends) (seats : List OwnerState) (nodes : List (NodeState LinkState G)) → AreOpenedFrom left seats nodes → length left ≡ 0 → IsMesh mesh → length mesh ≡ n
      → AreLists n homes → AreOpened trace n pages homes nodes
  all_opened left seats nodes h none is_mesh ends are_lists = record {
    lists = are_lists;
    count = (let c = h.count in omega (arith, c, no_seat));
    each = λ s home node at there. subst (λ j. IsOpened trace n pages j home node) (place s) (h.opened s home node (subst (λ j. slice_get homes j ≡ Some home) (sym (place s)) at) there);
    joined = λ a c x y le here there. is_mesh.pairs a c x y le (end_at a c x here) (end_at (c + 1) a y there);
  }
    where
      no_seat : length seats ≡ 0
      no_seat = let e = h.one_each in omega (arith, e, none)

      place : (s : ℕ) → length seats + s ≡ s
      place s = omega (arith, no_seat)

      end_at : (a k : ℕ) (x : LinkState) → IsLinkOf nodes a k x → IsEnd mesh a k x
      end_at a k x l =
          let w = slice_get_within nodes a l.node l.node_at in
          let c = h.count in
          let own = something_at mesh a (omega (arith, w, c, ends, no_seat)) in
          let row = h.linked a own.0 l.node (subst (λ j. slice_get mesh j ≡ Some own.0) (sym (place a)) own.1) l.node_at in
          record { own = own.0; own_at = own.1; end_at = subst (λ l. slice_get l k ≡ Some x) row l.link_at }

-- ---- nodes are abandoned

module _ {G : Type 0} where
  -- the nodes before these were abandoned
  pub record AreAbandoned (nodes rest : List (NodeState LinkState G)) (old now : List OwnerState) : Type 0 where
    pub gone : List (NodeState LinkState G)
    pub split : nodes ≡ gone ++ rest
    pub back : GivesBack gone old now

  pub none_abandoned : (nodes rest : List (NodeState LinkState G)) (old : List OwnerState) → rest ≡ nodes → AreAbandoned nodes rest old old
  none_abandoned nodes rest old e = record {
    gone = [];
    split = sym e;
    back = record {
      count = omega arith;
      kept = λ s seat at. at;
      back = λ k node seat at there. absurd (let w = slice_get_within [] k node at in omega (arith, w));
    };
  }

  -- the node that comes next
  pub next_node : (nodes rest left : List (NodeState LinkState G)) (old now : List OwnerState) (node : NodeState LinkState G) (h : AreAbandoned nodes rest old now) → rest ≡ node ∷ left
      → slice_get nodes (length h.gone) ≡ Some node
  next_node nodes rest left old now node h e =
      subst (λ l. slice_get l (length h.gone) ≡ Some node) (sym (h.split ∙ ap (λ l. h.gone ++ l) e)) (get_between h.gone node left)

  pub one_abandoned : (nodes rest left : List (NodeState LinkState G)) (old now : List OwnerState) (node : NodeState LinkState G) (seat : OwnerState) → AreAbandoned nodes rest old now
      → rest ≡ node ∷ left → IsAtRest node.store.list seat → AreAbandoned nodes left old (now ++ seat ∷ [])
  one_abandoned nodes rest left old now node seat h e at_rest = record {
    gone = h.gone ++ node ∷ [];
    split = h.split ∙ ap (λ l. h.gone ++ l) e ∙ sym (append_assoc h.gone (node ∷ []) left);
    back = record {
      count = (let n = length-append now (seat ∷ []) in let g = length-append h.gone (node ∷ []) in omega (arith, count, n, g));
      kept = λ s one at. get_in_front now (seat ∷ []) s one (h.back.kept s one at);
      back = λ k one other at there. elim (before_or_last h.gone node one k at) [
        | inl l ↦ h.back.back k one other l (
            let w = slice_get_within h.gone k one l in
            sym (get_front now (seat ∷ []) (length old + k) (omega (arith, w, count))) ∙ there)
        | inr r ↦ (
            let q = r.0 in
            let place : length old + k ≡ length now = omega (arith, q, count) in
            let same : seat ≡ other = same_Some seat other (sym (get_last now seat) ∙ subst (λ j. slice_get (now ++ seat ∷ []) j ≡ Some other) place there) in
            subst (λ o. IsAtRest one.store.list o) same (subst (λ (d : NodeState LinkState G). IsAtRest d.store.list seat) r.1 at_rest))
      ];
    };
  }
    where
      count : length now ≡ length old + length h.gone
      count = h.back.count

  pub all_abandoned : (nodes rest : List (NodeState LinkState G)) (old now : List OwnerState) → AreAbandoned nodes rest old now → rest ≡ [] → GivesBack nodes old now
  all_abandoned nodes rest old now h e = subst (λ l. GivesBack l old now) (sym (h.split ∙ ap (λ l. h.gone ++ l) e ∙ append-nil h.gone)) h.back

-- all seats are back
module _ {G : Type 0} (n : ℕ) (homes : List OwnedList) where
  pub all_back : (seats new : List OwnerState) (nodes : List (NodeState LinkState G)) → AreLists n homes → AreLeft n homes seats nodes → GivesBack nodes seats new → AreAtRest n homes new
  all_back seats new nodes lists left back = record {
    lists = lists;
    one_each = (let c = left.count in let b = back.count in omega (arith, c, b));
    at_rest = at_rest_at;
  }
    where
      at_rest_at : (s : ℕ) (home : OwnedList) (seat : OwnerState) → slice_get homes s ≡ Some home → slice_get new s ≡ Some seat → IsAtRest home seat
      at_rest_at s home seat at there = elim (lt_or_ge s (length seats)) [
        | inl lt ↦ (
            let was = something_at seats s lt in
            let same : was.0 ≡ seat = same_Some was.0 seat (sym (back.kept s was.0 was.1) ∙ there) in
            subst (λ o. IsAtRest home o) same (left.seated s home was.0 at was.1))
        | inr ge ↦ (
            let k = s - length seats in
            let place : length seats + k ≡ s = omega (arith, ge) in
            let w = slice_get_within new s seat there in
            let b = back.count in
            let node = something_at nodes k (omega (arith, w, b, ge)) in
            let list = left.lists k home node.0 (subst (λ j. slice_get homes j ≡ Some home) (sym place) at) node.1 in
            subst (λ l. IsAtRest l seat) list (back.back k node.0 seat node.1 (subst (λ j. slice_get new j ≡ Some seat) (sym place) there)))
      ]
