-- Pages that are cut into free spans, the greatest first.
use Rattle.std.proofs.Common.{◌≡◌, ◌≢◌, ℕ, zero, suc, ◌+◌, ◌%◌, ◌^◌, ◌<◌, ◌≤◌, inl, inr, Option, List, [], ◌∷◌, length, get_or, set, replicate, Some, None, refl, sym, ap, subst, ◌∙◌, arith, zero-add}
use Rattle.std.proofs.Math.ListN.{length-set}
use Rattle.std.proofs.lemmas.List.{length-replicate}
use Rattle.std.proofs.lemmas.List.Sums.{sum_by-cons}
use Rattle.std.proofs.lemmas.Bool.{cases_eq}
use Rattle.std.proofs.lemmas.Nat.{pow_pos}
use Rattle.std.specs.FinMap as map
use Rattle.std.specs.Prelude.{sum_by}
use Rattle.index_lists.specs.Lists.{Lists, list_at, with_list}
use Rattle.common_lemmas.proofs.Orders.{lt_or_ge}
use Rattle.common_lemmas.proofs.Options.{some_is}
use Rattle.common_lemmas.specs.Lists.{times}
use Rattle.layout.specs.Sizes.{most_pages, greatest_order, span_orders}
use Rattle.span_lists.specs.declared.spans.PageState.{PageState}
use Rattle.span_lists.specs.declared.spans.PageState.TheVariants.{Inside, Free, Allocated}
use Rattle.span_lists.specs.inside.Pages.{order_of, allocated_order_of, mark, allocated_pages_of, state_at, IsSpanAt, IsCut, IsConsistent, IsBegun, allocated_of}
use Rattle.span_lists.specs.Buddies.{buddy}
use Rattle.span_lists.proofs.Consistent.{pages_from-replicate, pages_from-more, listed_push, buddy_apart}
use Rattle.span_lists.proofs.AllocatedSpans.{get-allocated_of, state_same, state_other}

-- ---- no page is cut yet

all_inside : (m x : ℕ) → state_at (replicate m Inside) x ≡ Inside
all_inside zero x = refl
all_inside (suc m) zero = refl
all_inside (suc m) (suc x) = all_inside m x

no_list : (m k : ℕ) → get_or (replicate {A = List ℕ} m []) k [] ≡ []
no_list zero k = refl
no_list (suc m) zero = refl
no_list (suc m) (suc k) = no_list m k

begun : (pages : ℕ) → IsBegun pages 0 span_orders (replicate pages Inside) (record { indices = pages; lists = replicate span_orders [] })
begun pages = record {
  states_len = length-replicate {A = PageState} pages Inside;
  indices = refl;
  orders = length-replicate {A = List ℕ} span_orders [];
  cut = record {
    spans = λ x k e. absurd (let clash : None ≡ Some k = sym (ap order_of (all_inside pages x)) ∙ e in cc);
    covered = λ x l. absurd (omega arith);
  };
  beyond = λ x l. all_inside pages x;
  least_order = λ x k e. absurd (let clash : Inside ≡ Free k = sym (all_inside pages x) ∙ e in cc);
  one = λ x y k e d. absurd (let clash : Inside ≡ Free k = sym (all_inside pages x) ∙ e in cc);
  none_allocated = λ x. ap allocated_order_of (all_inside pages x);
  listed = λ k x l. ap (times x) (no_list span_orders k) ∙ sym (ap (mark k) (all_inside pages x));
  count = sym (pages_from-replicate 0 span_orders);
}

pub begun_with_none : (pages : ℕ) (states : List PageState) (lists : Lists) → states ≡ replicate pages Inside → lists ≡ record { indices = pages; lists = replicate span_orders [] } → IsBegun pages 0 span_orders states lists
begun_with_none pages states lists es el =
    subst (λ s. IsBegun pages 0 span_orders s lists) (sym es) (subst (λ l. IsBegun pages 0 span_orders (replicate pages Inside) l) (sym el) (begun pages))

-- ---- one more span

-- a span begins where the spans before it end
cut_more : (end k : ℕ) (at at' : ℕ → Option ℕ) → IsCut end at → k ≤ greatest_order → end % 2 ^ k ≡ 0 → ((x : ℕ) → end ≤ x → at x ≡ None) → at' end ≡ Some k → ((x : ℕ) → x ≢ end → at' x ≡ at x) → IsCut (end + 2 ^ k) at'
cut_more end k at at' h small aligned beyond here others = record {
  spans = λ x j e. elim (cases_eq x end) [
    | inl q ↦
        (let made : IsSpanAt (end + 2 ^ k) at' end k = record { order = small; aligned = aligned; within = omega arith; alone = λ i l u. others i (λ z. absurd (omega arith)) ∙ beyond i (omega arith) } in
        subst (λ z. IsSpanAt (end + 2 ^ k) at' z j) (sym q) (subst (λ z. IsSpanAt (end + 2 ^ k) at' end z) (some_is here (ap at' (sym q) ∙ e)) made))
    | inr n ↦
        (let s = h.spans x j (sym (others x n) ∙ e) in let w = s.within in
        record { order = s.order; aligned = s.aligned; within = omega arith; alone = λ i l u. others i (λ z. absurd (omega arith)) ∙ s.alone i l u })
  ];
  covered = λ x l. elim (lt_or_ge x end) [
    | inl below ↦ (let c = h.covered x below in let low = c.3 in (c.0, c.1, others c.0 (λ z. absurd (omega (arith, low, z, below))) ∙ c.2, c.3, c.4))
    | inr g ↦ (end, k, here, g, l)
  ];
}

pub begun_more : (pages first least k : ℕ) (states : List PageState) (lists : Lists) → IsBegun pages first least states lists → k < least → least ≤ span_orders → first % 2 ^ k ≡ 0 → first < pages
    → IsBegun pages (first + 2 ^ k) k (set states first (Free k)) (with_list lists k (first ∷ list_at lists k))
begun_more pages first least k states lists h less most aligned within =
    let n = h.states_len in let o = h.orders in
    let inside : first < length states = omega (arith, n, within) in
    let states' = set states first (Free k) in
    let was : state_at states first ≡ Inside = h.beyond first (omega arith) in
    let now : state_at states' first ≡ Free k = state_same states first first (Free k) inside refl in
    let others : (y : ℕ) → y ≢ first → state_at states' y ≡ state_at states y = λ y d. state_other states first y (Free k) d in
    let order_is : (y j : ℕ) → y ≡ first → state_at states' y ≡ Free j → k ≡ j = (λ y j q e. some_is (ap order_of (ap (state_at states') q ∙ now)) (ap order_of e)) in
    let at : 2 ^ (0 + k) ≡ 2 ^ k = ap (λ z. 2 ^ z) (zero-add k) in
    let more = pages_from-more 0 lists.lists k (first ∷ list_at lists k) (omega (arith, o, less, most)) (omega arith) in
    let c = h.count in
    record {
      states_len = length-set states first (Free k) ∙ h.states_len;
      indices = h.indices;
      orders = length-set lists.lists k _ ∙ h.orders;
      cut = cut_more first k (λ x. order_of (state_at states x)) (λ x. order_of (state_at states' x)) h.cut (omega arith) aligned (λ x l. ap order_of (h.beyond x l)) (ap order_of now) (λ x d. ap order_of (others x d));
      beyond = λ x l. (let pos = pow_pos k in others x (λ z. absurd (omega (arith, pos, l, z))) ∙ h.beyond x (omega arith));
      least_order = λ x j e. elim (cases_eq x first) [
        | inl q ↦ (let s = order_is x j q e in omega (arith, s))
        | inr d ↦ (let low = h.least_order x j (sym (others x d) ∙ e) in omega (arith, low, less))
      ];
      one = λ x y j e d. elim (cases_eq x first) [
        | inl qx ↦ elim (cases_eq y first) [
          | inl qy ↦ qx ∙ sym qy
          | inr ny ↦ absurd (let s = order_is x j qx e in let low = h.least_order y j (sym (others y ny) ∙ d) in omega (arith, s, low, less))
        ]
        | inr nx ↦ elim (cases_eq y first) [
          | inl qy ↦ absurd (let s = order_is y j qy d in let low = h.least_order x j (sym (others x nx) ∙ e) in omega (arith, s, low, less))
          | inr ny ↦ h.one x y j (sym (others x nx) ∙ e) (sym (others y ny) ∙ d)
        ]
      ];
      none_allocated = λ x. elim (cases_eq x first) [
        | inl q ↦ ap (λ z. allocated_order_of (state_at states' z)) q ∙ ap allocated_order_of now
        | inr d ↦ ap allocated_order_of (others x d) ∙ h.none_allocated x
      ];
      listed = listed_push lists.lists states states' k first h.orders (omega arith) h.listed now (λ j. ap (mark j) was) (λ z j d. ap (mark j) (others z d));
      count = omega (arith, c, more, at);
    }

-- no span of an order begins
pub begun_less : (pages first least less : ℕ) (states : List PageState) (lists : Lists) → IsBegun pages first least states lists → less ≤ least → IsBegun pages first less states lists
begun_less pages first least less states lists h low = record {
  states_len = h.states_len;
  indices = h.indices;
  orders = h.orders;
  cut = h.cut;
  beyond = h.beyond;
  least_order = λ x k e. (let held = h.least_order x k e in omega (arith, held, low));
  one = h.one;
  none_allocated = h.none_allocated;
  listed = h.listed;
  count = h.count;
}

-- no list has a page at which no span begins
pub absent_behind : (pages first least : ℕ) (states : List PageState) (lists : Lists) → IsBegun pages first least states lists → (k : ℕ) → k < length lists.lists → times first (list_at lists k) ≡ 0
absent_behind pages first least states lists h k l = (let o = h.orders in h.listed k first (omega (arith, o, l))) ∙ ap (mark k) (h.beyond first (omega arith))

-- ---- all pages are cut

none_counted : (states : List PageState) → ((x : ℕ) → allocated_order_of (state_at states x) ≡ None) → sum_by allocated_pages_of states ≡ 0
none_counted [] none = refl
none_counted (Inside ∷ states) none = (let one = sum_by-cons allocated_pages_of Inside states in let rest = none_counted states (λ x. none (suc x)) in omega (arith, one, rest))
none_counted (Free k ∷ states) none = (let one = sum_by-cons allocated_pages_of (Free k) states in let rest = none_counted states (λ x. none (suc x)) in omega (arith, one, rest))
none_counted (Allocated k ∷ states) none = absurd (let clash : Some k ≡ None = none 0 in cc)

pub consistent_begun : (pages first least : ℕ) (states : List PageState) (lists : Lists) → IsBegun pages first least states lists → first ≡ pages → pages ≤ most_pages → IsConsistent pages states lists pages
consistent_begun pages first least states lists h all small = record {
  small = small;
  states_len = h.states_len;
  indices = h.indices;
  orders = h.orders;
  cut = subst (λ n. IsCut n (λ x. order_of (state_at states x))) all h.cut;
  listed = h.listed;
  coalesced = λ x k l e d. buddy_apart x k (sym (h.one x (buddy x k) k e d));
  count = sym all ∙ h.count;
  total = (let none = none_counted states h.none_allocated in omega (arith, none));
}

-- no span is allocated
pub map_of_none : (states : List PageState) → ((x : ℕ) → allocated_order_of (state_at states x) ≡ None) → (x : ℕ) → map.get (allocated_of states) x ≡ None
map_of_none states none x = get-allocated_of states x ∙ none x
