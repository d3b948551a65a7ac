-- A full inner node with a branch more cut in two: the lists.
use Rattle.std.proofs.Common.{◌≡◌, ℕ, zero, suc, ◌+◌, ◌-◌, ◌<◌, ◌≤◌, List, [], ◌∷◌, ◌++◌, length, take, drop, get_or, set, replicate, Some, refl, sym, ap, ◌∙◌, arith}
use Rattle.std.specs.List.{insert}
use Rattle.std.proofs.lemmas.List.{drop_more, length-take-le, length-drop}
use Rattle.std.proofs.lemmas.List.Edits.{get_or-insert_above, get_or-insert_at, get_or-insert_below, insert-append_left, length-insert}
use Rattle.tree_nodes.specs.Nodes.{Entry, TreeNode, no_entry, no_place}
use Rattle.index_tree.specs.Inserts.{Branch}
use Rattle.regions.specs.Places.{link_to}
use Rattle.index_tree.specs.Links.{with_child}
use Rattle.index_tree.specs.Splits.{back_of, front_of, lower_half, upper_half, wide_children, wide_entries, widened}

module _ {A : Type 0} where
  -- the front and the back of a list into which one was put
  take_insert_in : (xs : List A) (i n : ℕ) (x : A) → i ≤ n → i ≤ length xs → take (suc n) (insert xs i x) ≡ insert (take n xs) i x
  take_insert_in xs zero n x within short = refl
  take_insert_in [] (suc i) n x within short = absurd (omega arith)
  take_insert_in (y ∷ ys) (suc i) zero x within short = absurd (omega arith)
  take_insert_in (y ∷ ys) (suc i) (suc n) x within short = ap (λ (t : List A). y ∷ t) (take_insert_in ys i n x (omega arith) (omega arith))

  drop_insert_in : (xs : List A) (i n : ℕ) (x : A) → i ≤ n → i ≤ length xs → drop (suc n) (insert xs i x) ≡ drop n xs
  drop_insert_in xs zero n x within short = refl
  drop_insert_in [] (suc i) n x within short = absurd (omega arith)
  drop_insert_in (y ∷ ys) (suc i) zero x within short = absurd (omega arith)
  drop_insert_in (y ∷ ys) (suc i) (suc n) x within short = drop_insert_in ys i n x (omega arith) (omega arith)

  take_insert_past : (xs : List A) (i n : ℕ) (x : A) → n ≤ i → i ≤ length xs → take n (insert xs i x) ≡ take n xs
  take_insert_past xs i zero x past short = refl
  take_insert_past xs zero (suc n) x past short = absurd (omega arith)
  take_insert_past [] (suc i) (suc n) x past short = absurd (omega arith)
  take_insert_past (y ∷ ys) (suc i) (suc n) x past short = ap (λ (t : List A). y ∷ t) (take_insert_past ys i n x (omega arith) (omega arith))

  drop_insert_past : (xs : List A) (i n j : ℕ) (x : A) → n + j ≡ i → i ≤ length xs → drop n (insert xs i x) ≡ insert (drop n xs) j x
  drop_insert_past xs i zero j x is short = ap (λ k. insert xs k x) {x = i} {y = j} (omega arith)
  drop_insert_past xs zero (suc n) j x is short = absurd (omega arith)
  drop_insert_past [] (suc i) (suc n) j x is short = absurd (omega arith)
  drop_insert_past (y ∷ ys) (suc i) (suc n) j x is short = drop_insert_past ys i n j x (omega arith) (omega arith)

  take_past : (xs ys : List A) (n m : ℕ) → length xs ≡ n → take (n + m) (xs ++ ys) ≡ xs ++ take m ys
  take_past [] ys n m is = ap (λ k. take k ys) {x = n + m} {y = m} (omega arith)
  take_past (x ∷ xs) ys n m is =
      ap (λ k. take k (x ∷ (xs ++ ys))) {x = n + m} {y = suc ((n - 1) + m)} (omega arith) ∙ ap (λ (t : List A). x ∷ t) (take_past xs ys (n - 1) m (omega arith))

take_replicate : (m n y : ℕ) → m ≤ n → take m (replicate n y) ≡ replicate m y
take_replicate zero n y within = refl
take_replicate (suc m) zero y within = absurd (omega arith)
take_replicate (suc m) (suc n) y within = ap (λ t. y ∷ t) (take_replicate m n y (omega arith))

-- a child put in among so many, of which those behind are none
child_among : (xs : List ℕ) (j l : ℕ) → length xs ≡ 8 → j ≤ 8 → take 17 (insert (xs ++ replicate 9 no_place) j l) ≡ insert xs j l ++ replicate 8 no_place
child_among xs j l eight within =
    let longer : length (insert xs j l) ≡ 9 = length-insert xs j l (omega arith) ∙ omega arith in
    ap (λ (t : List ℕ). take 17 t) (insert-append_left xs (replicate 9 no_place) j l (omega arith))
    ∙ (take_past (insert xs j l) (replicate 9 no_place) 9 8 longer ∙ ap (λ (t : List ℕ). insert xs j l ++ t) (take_replicate 8 9 no_place (omega arith)))

abbrev of_both : TreeNode → List Entry → List ℕ → TreeNode
of_both node es cs = record node { entries = es; children = cs }

both_are : (node : TreeNode) (es fs : List Entry) (cs ds : List ℕ) → es ≡ fs → cs ≡ ds → of_both node es cs ≡ of_both node fs ds
both_are node es fs cs ds e d = ap (λ (t : List Entry). of_both node t cs) e ∙ ap (λ (t : List ℕ). of_both node fs t) d

module _ (node : TreeNode) (b : Branch) (sixteen : length node.entries ≡ 16) (seventeen : length node.children ≡ 17) where
  abbrev link : ℕ
  link = link_to (Some b.place)

  -- the branch goes into the lower half
  pub low_front : (i : ℕ) → i < 8 → widened i b (front_of 7 node) ≡ lower_half i b node
  low_front i low =
      both_are node (insert (take 7 node.entries) i b.entry) (take 8 (wide_entries i b node)) (take 17 (insert (take 8 node.children ++ replicate 9 no_place) (suc i) link)) (take 9 (wide_children i b node) ++ replicate 8 no_place)
      (sym (take_insert_in node.entries i 7 b.entry (omega arith) (omega arith)))
      (child_among (take 8 node.children) (suc i) link (length-take-le 8 node.children (omega arith)) (omega arith)
      ∙ ap (λ (t : List ℕ). t ++ replicate 8 no_place) (sym (take_insert_in node.children (suc i) 8 link (omega arith) (omega arith))))

  pub low_back : (i : ℕ) → i < 8 → back_of 8 node ≡ upper_half i b node
  low_back i low =
      both_are node (drop 8 node.entries) (drop 9 (wide_entries i b node)) (drop 8 node.children ++ replicate 8 no_place) (drop 9 (wide_children i b node) ++ replicate 8 no_place)
      (sym (drop_insert_in node.entries i 8 b.entry (omega arith) (omega arith)))
      (ap (λ (t : List ℕ). t ++ replicate 8 no_place) (sym (drop_insert_in node.children (suc i) 8 link (omega arith) (omega arith))))

  pub low_key : (i : ℕ) → i < 8 → get_or node.entries 7 no_entry ≡ get_or (wide_entries i b node) 8 no_entry
  low_key i low = sym (get_or-insert_above node.entries i b.entry no_entry 7 (omega arith) (omega arith))

  -- it goes between both
  pub high_front : (i : ℕ) → 8 ≤ i → i ≤ 16 → front_of 8 node ≡ lower_half i b node
  high_front i high within =
      both_are node (take 8 node.entries) (take 8 (wide_entries i b node)) (take 9 node.children ++ replicate 8 no_place) (take 9 (wide_children i b node) ++ replicate 8 no_place)
      (sym (take_insert_past node.entries i 8 b.entry (omega arith) (omega arith)))
      (ap (λ (t : List ℕ). t ++ replicate 8 no_place) (sym (take_insert_past node.children (suc i) 9 link (omega arith) (omega arith))))

  pub middle_back : with_child 0 link (back_of 8 node) ≡ upper_half 8 b node
  middle_back =
      both_are node (drop 8 node.entries) (drop 9 (wide_entries 8 b node)) (set (drop 8 node.children ++ replicate 8 no_place) 0 link) (drop 9 (wide_children 8 b node) ++ replicate 8 no_place)
      (sym (drop_insert_in node.entries 8 8 b.entry (omega arith) (omega arith)))
      (ap (λ (t : List ℕ). set (t ++ replicate 8 no_place) 0 link) (drop_more node.children 8 no_place (omega arith))
      ∙ ap (λ (t : List ℕ). t ++ replicate 8 no_place) (sym (drop_insert_past node.children 9 9 0 link refl (omega arith))))

  pub middle_key : b.entry ≡ get_or (wide_entries 8 b node) 8 no_entry
  middle_key = sym (get_or-insert_at node.entries 8 b.entry no_entry (omega arith))

  -- it goes into the upper half
  pub high_back : (i j : ℕ) → 9 + j ≡ i → i ≤ 16 → widened j b (back_of 9 node) ≡ upper_half i b node
  high_back i j is within =
      both_are node (insert (drop 9 node.entries) j b.entry) (drop 9 (wide_entries i b node)) (take 17 (insert (drop 9 node.children ++ replicate 9 no_place) (suc j) link)) (drop 9 (wide_children i b node) ++ replicate 8 no_place)
      (sym (drop_insert_past node.entries i 9 j b.entry is (omega arith)))
      (child_among (drop 9 node.children) (suc j) link (length-drop 9 node.children ∙ omega arith) (omega arith)
      ∙ ap (λ (t : List ℕ). t ++ replicate 8 no_place) (sym (drop_insert_past node.children (suc i) 9 (suc j) link (omega arith) (omega arith))))

  pub high_key : (i : ℕ) → 8 < i → i ≤ 16 → get_or node.entries 8 no_entry ≡ get_or (wide_entries i b node) 8 no_entry
  high_key i high within = sym (get_or-insert_below node.entries i b.entry no_entry 8 high (omega arith))
