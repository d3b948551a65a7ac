-- The definitions compute on the example.
use Rattle.std.proofs.Common.{◌≡◌, ℕ, zero, suc, ◌+◌, ◌<◌, ◌⊎◌, inl, inr, List, [], ◌∷◌, ◌++◌, length, Option, Some, None, true, false, refl, sym, ap, subst, arith, ◌∙◌}
use Rattle.std.proofs.lemmas.List.{nil_from_length}
use Rattle.std.proofs.lemmas.List.Elements.{All-head}
use Rattle.foreign_list.specs.Blocks.{Block}
use Rattle.shard_store.specs.Stores.{StoreState}
use Rattle.shard_rings.specs.declared.link.Packet.{Packet}
use Rattle.shard_rings.specs.Lanes.{each_lane, on, Traffic}
use Rattle.shard_rings.specs.declared.link.Lane.{Lane}
use Rattle.shard_rings.specs.declared.link.Lane.TheVariants.{Requests, Replies}
use Rattle.shard_node.specs.Nodes.{NodeState, PeerState}
use Rattle.cache_model.specs.Examples.{put_b}
use Rattle.shard_node_tests.specs.Examples.{at_start, packet, put_request, of_number_3, to_the_owner}
use Rattle.shard_parts.specs.declared.stray_packet.StrayPacket.{StrayPacket}
use Rattle.shard_node.specs.Due.{is_next, number_in}
use Rattle.shard_node.specs.Turns.{IsStray, HasStray, HasNone, HasParted, IsDone}
use Rattle.shard_node_tests.proofs.examples.stray.Goals as goal

abbrev link_is : Traffic → Traffic
link_is link = link

abbrev holds : Unit {0} → ℕ
holds gate = 0

abbrev peer_with : List Packet → PeerState Traffic
peer_with requests = record {
  shard = 0;
  link = record { sent = each_lane []; received = record { requests = requests; replies = [] }; full = each_lane 0; empty = each_lane 0 };
  held = each_lane None;
  reply = None;
  keeps = record { asks = put_b.operations; has_heard_bye = false; answers = []; owed = 0; has_sent_bye = false };
}

some-is : {A : Type 0} (a b : A) → Some a ≡ Some b → b ≡ a
some-is a b e = cc

none-is : {A : Type 0} (b : A) → ◌≡◌ {A = Option A} None (Some b) → ⊥
none-is b e = cc

true-false : true ≡ false → ⊥
true-false e = cc

not-longer : (before : List Packet) (packet : Packet) (behind : List Packet) → ◌≡◌ {A = List Packet} [] (before ++ packet ∷ behind) → ⊥
not-longer [] packet behind e = cc
not-longer (x ∷ xs) packet behind e = cc

head-is : (x : Packet) (before : List Packet) (y : Packet) (behind : List Packet) → x ∷ [] ≡ before ++ y ∷ behind → (before ≡ []) × (y ≡ x)
head-is x [] y behind e = (refl, cc)
head-is x (z ∷ zs) y behind e = absurd (not-longer zs y behind (cc))

-- what is told of a packet of the first peer
record Told (lane : Lane) (node : NodeState Traffic (Unit {0})) (m : ℕ) (stray : StrayPacket) (a b : PeerState Traffic) : Type 0 where
  before : List Packet
  behind : List Packet
  packet : Packet
  many : length before ≡ m
  came : on lane b.link.received ≡ on lane a.link.received ++ before ++ packet ∷ behind
  is : IsStray link_is holds lane node a.shard (on lane a.link.received ++ before) packet stray

at-first : (lane : Lane) (store : StoreState) (before after : List Packet) (m : ℕ) (stray : StrayPacket)
    → HasStray link_is holds lane (at_start store before) (at_start store after) 0 m stray
    → Told lane (at_start store before) m stray (peer_with before) (peer_with after)
at-first lane store before after m stray has =
    subst (λ b. Told lane (at_start store before) m stray (peer_with before) b) (some-is _ _ has.6)
    (subst (λ a. Told lane (at_start store before) m stray a has.1) (some-is _ _ has.5)
    (record { before = has.2; behind = has.3; packet = has.4; many = has.7; came = has.8; is = has.9 }))

-- nothing came on the lane of replies
quiet : (store : StoreState) (before after : List Packet) (j i : ℕ) → HasNone link_is holds Replies (at_start store before) (at_start store after) j i
quiet store before after zero i stray has = let told = at-first Replies store before after i stray has in not-longer told.before told.packet told.behind told.came
quiet store before after (suc j) i stray has = none-is has.0 has.5

-- what came on that of requests
came : (store : StoreState) (after : Packet) (j i : ℕ) (stray : StrayPacket) → HasStray link_is holds Requests (at_start store []) (at_start store (after ∷ [])) j i stray
    → (is_next to_the_owner 0 after ≡ false) × (stray ≡ record { peer = 0; expected = 1; found = number_in after })
came store after zero i stray has =
    let told = at-first Requests store [] (after ∷ []) i stray has in
    let same = head-is after told.before told.packet told.behind told.came in
    let is : IsStray link_is holds Requests (at_start store []) 0 [] after stray =
    (subst (λ p. IsStray link_is holds Requests (at_start store []) 0 [] p stray) same.1
    (subst (λ (ps : List Packet). IsStray link_is holds Requests (at_start store []) 0 ps told.packet stray) same.0 told.is)) in
    is
came store after (suc j) i stray has = absurd (none-is has.0 has.5)

silent : (store : StoreState) (j i : ℕ) (stray : StrayPacket) → HasStray link_is holds Requests (at_start store []) (at_start store []) j i stray → ⊥
silent store zero i stray has = let told = at-first Requests store [] [] i stray has in not-longer told.before told.packet told.behind told.came
silent store (suc j) i stray has = none-is has.0 has.5

stray : (block : Block) (store : StoreState) → HasStray link_is holds Requests (at_start store []) (at_start store (packet block of_number_3 ∷ [])) 0 0 (record { peer = 0; expected = 1; found = 3 })
stray block store = (peer_with [], peer_with (packet block of_number_3 ∷ []), [], [], packet block of_number_3, refl, refl, refl, refl, (refl, refl))

-- behind the request that is expected
hidden : (block : Block) (store : StoreState)
    → HasStray link_is holds Requests (at_start store []) (at_start store (packet block put_request ∷ packet block of_number_3 ∷ [])) 0 1 (record { peer = 0; expected = 0; found = 3 })
hidden block store = (
  peer_with [],
  peer_with (packet block put_request ∷ packet block of_number_3 ∷ []),
  packet block put_request ∷ [],
  [],
  packet block of_number_3,
  refl,
  refl,
  refl,
  refl,
  (refl, refl),
)

first-taken : (block : Block) (store : StoreState) (j i : ℕ) → (j < 0) ⊎ ((j ≡ 0) × (i < 1))
    → HasNone link_is holds Requests (at_start store []) (at_start store (packet block put_request ∷ packet block of_number_3 ∷ [])) j i
first-taken block store zero i before stray has =
    let both = packet block put_request ∷ packet block of_number_3 ∷ [] in
    let told = at-first Requests store [] both i stray has in
    let none : told.before ≡ [] = nil_from_length told.before (let many = told.many in elim before [ inl less ↦ absurd (omega (arith, less)) | inr one ↦ omega (arith, one, many) ]) in
    let here : both ≡ told.packet ∷ told.behind = told.came ∙ ap (λ (ps : List Packet). ps ++ told.packet ∷ told.behind) none in
    let same : told.packet ≡ packet block put_request = cc in
    let is : IsStray link_is holds Requests (at_start store []) 0 [] (packet block put_request) stray =
    (subst (λ p. IsStray link_is holds Requests (at_start store []) 0 [] p stray) same
    (subst (λ (ps : List Packet). IsStray link_is holds Requests (at_start store []) 0 ps told.packet stray) none told.is)) in
    true-false is.0
first-taken block store (suc j) i before stray has = none-is has.0 has.5

nothing-said : ◌≡◌ {A = List (Option (List ℕ))} [] (None ∷ []) → ⊥
nothing-said e = cc

not-done : (store : StoreState) (after : List Packet) → IsDone link_is holds (at_start store after) → ⊥
not-done store after done = let heard = (All-head (HasParted link_is holds (at_start store after)) (peer_with after) [] done.parted).told in nothing-said heard

two-three : (x : StrayPacket) → x ≡ record { peer = 0; expected = 1; found = 3 } → x ≡ record { peer = 0; expected = 1; found = 2 } → ⊥
two-three x e f = let n : 3 ≡ 2 = ap (λ (a : StrayPacket). a.found) (sym e ∙ f) in omega (arith, n)

pub returns : goal.returns
returns c block store = record {
  stray = (
    not-done store (packet block of_number_3 ∷ []),
    inr ((0, 0, stray block store, λ j i before. elim before [ inl less ↦ absurd (omega (arith, less)) | inr same ↦ absurd (omega (arith, same)) ]), quiet store [] (packet block of_number_3 ∷ [])),
  );
  other_number = λ answer. elim answer.1 [
    | inl first ↦ quiet store [] (packet block of_number_3 ∷ []) first.0 first.1 _ first.2
    | inr first ↦ let one = first.0 in two-three _ (came store (packet block of_number_3) one.0 one.1 _ one.2).1 refl
  ];
  moved = λ answer. answer.1 Requests 0 0 _ (stray block store);
  nothing = λ answer. elim answer.1 [
    | inl first ↦ quiet store [] [] first.0 first.1 _ first.2
    | inr first ↦ let one = first.0 in silent store one.0 one.1 _ one.2
  ];
  expected = λ answer. elim answer.1 [
    | inl first ↦ quiet store [] (packet block put_request ∷ []) first.0 first.1 _ first.2
    | inr first ↦ let one = first.0 in true-false (came store (packet block put_request) one.0 one.1 _ one.2).0
  ];
  behind = (
    not-done store (packet block put_request ∷ packet block of_number_3 ∷ []),
    inr ((0, 1, hidden block store, first-taken block store), quiet store [] (packet block put_request ∷ packet block of_number_3 ∷ [])),
  );
  hidden = λ answer. answer.1 Requests 0 1 _ (hidden block store);
}
