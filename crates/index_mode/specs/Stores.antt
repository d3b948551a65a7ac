-- What contracts see of an index that was opened.
use Rattle.std.specs.Prelude.{◌≡◌, ℕ, []}
use Rattle.index_tree.specs.Store.{IndexState, index_in}

-- the pages that it has, and the index in its segments
pub record StoreState : Type 0 where
  pub pages : ℕ
  pub index : IndexState

-- no key is held
pub record IsEmpty (store : StoreState) : Type 0 where
  pub index : index_in store.index ≡ []
