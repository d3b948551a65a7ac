-- How the spans stand in a table of pages.
use Rattle.std.specs.Prelude.{◌≡◌, ◌≢◌, ℕ, suc, ◌+◌, ◌<◌, ◌≤◌, ◌%◌, ◌^◌, ◌==◌, if◌then◌else◌, List, [], ◌∷◌, length, slice_index_or, Option, Some, None, sum_by}
use Rattle.std.specs.Ordering.{nat_cmp}
use Rattle.std.specs.FinMap as map
use Rattle.index_lists.specs.Lists.{Lists}
use Rattle.common_lemmas.specs.Lists.{times}
use Rattle.layout.specs.Sizes.{most_pages, greatest_order, span_orders}
use Rattle.span_lists.specs.Buddies.{buddy}
use Rattle.span_lists.specs.Layout.{pages_from}
use Rattle.span_lists.specs.declared.spans.PageState.{PageState}
use Rattle.span_lists.specs.declared.spans.PageState.TheVariants.{Inside, Free, Allocated}

-- the order of the span that begins there
abbrev pub order_of : PageState → Option ℕ
order_of Inside = None
order_of (Free k) = Some k
order_of (Allocated k) = Some k

abbrev pub allocated_order_of : PageState → Option ℕ
allocated_order_of Inside = None
allocated_order_of (Free k) = None
allocated_order_of (Allocated k) = Some k

-- how many times the list of an order has the page
abbrev pub mark : ℕ → PageState → ℕ
mark order Inside = 0
mark order (Free k) = if k == order then 1 else 0
mark order (Allocated k) = 0

-- the pages of an allocated span
abbrev pub allocated_pages_of : PageState → ℕ
allocated_pages_of Inside = 0
allocated_pages_of (Free k) = 0
allocated_pages_of (Allocated k) = 2 ^ k

abbrev pub state_at : List PageState → ℕ → PageState
state_at states page = slice_index_or states page Inside

-- the allocated spans, by their first pages, where the first of the states is of page p
abbrev pub allocated_entries : ℕ → List PageState → List (ℕ × ℕ)
allocated_entries p [] = []
allocated_entries p (Inside ∷ states) = allocated_entries (suc p) states
allocated_entries p (Free k ∷ states) = allocated_entries (suc p) states
allocated_entries p (Allocated k ∷ states) = (p, k) ∷ allocated_entries (suc p) states

unfoldable pub allocated_of : List PageState → map.FinMap nat_cmp ℕ
allocated_of states = map.from_entries (allocated_entries 0 states)

-- a span of the order begins at the page, and none within it
pub record IsSpanAt (pages : ℕ) (at : ℕ → Option ℕ) (x k : ℕ) : Type 0 where
  pub order : k ≤ greatest_order
  pub aligned : x % 2 ^ k ≡ 0
  pub within : x + 2 ^ k ≤ pages
  pub alone : (i : ℕ) → x < i → i < x + 2 ^ k → at i ≡ None

-- the orders that stand at pages cut them into spans
pub record IsCut (pages : ℕ) (at : ℕ → Option ℕ) : Type 0 where
  pub spans : (x k : ℕ) → at x ≡ Some k → IsSpanAt pages at x k
  pub covered : (x : ℕ) → x < pages → (p : ℕ) × (k : ℕ) × (at p ≡ Some k) × (p ≤ x) × (x < p + 2 ^ k)

-- the states of the pages, the lists of the free spans and the count of the free pages go together
pub record IsConsistent (pages : ℕ) (states : List PageState) (lists : Lists) (free : ℕ) : Type 0 where
  pub small : pages ≤ most_pages
  pub states_len : length states ≡ pages
  pub indices : lists.indices ≡ pages
  pub orders : length lists.lists ≡ span_orders
  pub cut : IsCut pages (λ x. order_of (state_at states x))
  pub listed : (k x : ℕ) → k < span_orders → times x (slice_index_or lists.lists k []) ≡ mark k (state_at states x)
  pub coalesced : (x k : ℕ) → k < greatest_order → state_at states x ≡ Free k → state_at states (buddy x k) ≢ Free k
  pub count : free ≡ pages_from 0 lists.lists
  pub total : free + sum_by allocated_pages_of states ≡ pages

-- the pages below one are cut into free spans, one at most of each order, and none of an order below one. No span begins behind them
pub record IsBegun (pages first least : ℕ) (states : List PageState) (lists : Lists) : Type 0 where
  pub states_len : length states ≡ pages
  pub indices : lists.indices ≡ pages
  pub orders : length lists.lists ≡ span_orders
  pub cut : IsCut first (λ x. order_of (state_at states x))
  pub beyond : (x : ℕ) → first ≤ x → state_at states x ≡ Inside
  pub least_order : (x k : ℕ) → state_at states x ≡ Free k → least ≤ k
  pub one : (x y k : ℕ) → state_at states x ≡ Free k → state_at states y ≡ Free k → x ≡ y
  pub none_allocated : (x : ℕ) → allocated_order_of (state_at states x) ≡ None
  pub listed : (k x : ℕ) → k < span_orders → times x (slice_index_or lists.lists k []) ≡ mark k (state_at states x)
  pub count : first ≡ pages_from 0 lists.lists
