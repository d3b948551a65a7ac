-- What happens to a chain of rows where two of them are linked to one another.
use Rattle.std.proofs.Common.{◌≡◌, ◌≢◌, List, [], ◌∷◌, ◌++◌, Option, Some, None, refl, sym, ap, subst, ◌∙◌}
use Rattle.std.specs.Prelude.{⊤}
use Rattle.std.specs.List.{last_or}
use Rattle.regions.specs.Stores.{Live}
use Rattle.regions.specs.declared.place.Place.{Place}
use Rattle.regions.specs.Places.{link_to}
use Rattle.row_cache.specs.Links.{AreApart, AreLinked, HaveRoom, Lacks, first_or, newer_at, older_at}
use Rattle.row_cache.specs.inside.Chained.{JoinsLinks, LinksBefore, LinksBehind, SetsLinks}

pub some_is : {A : Type 0} {a b : A} → Some a ≡ Some b → a ≡ b
some_is {A} {a} {b} e = cc

-- ---- lists of places

abbrev pub LacksAny : Option Place → List Place → Type 0
LacksAny None ps = ⊤
LacksAny (Some p) ps = Lacks p ps

-- no place is in both lists
abbrev pub AreDisjoint : List Place → List Place → Type 0
AreDisjoint [] ys = ⊤
AreDisjoint (x ∷ xs) ys = Lacks x ys × AreDisjoint xs ys

pub lacks_split : (p : Place) (xs ys : List Place) → Lacks p (xs ++ ys) → Lacks p xs × Lacks p ys
lacks_split p [] ys h = (tt, h)
lacks_split p (x ∷ xs) ys h = (let r = lacks_split p xs ys h.1 in ((h.0, r.0), r.1))

pub lacks_merge : (p : Place) (xs ys : List Place) → Lacks p xs → Lacks p ys → Lacks p (xs ++ ys)
lacks_merge p [] ys h k = k
lacks_merge p (x ∷ xs) ys h k = (h.0, lacks_merge p xs ys h.1 k)

pub apart_split : (xs ys : List Place) → AreApart (xs ++ ys) → AreApart xs × AreApart ys × AreDisjoint xs ys
apart_split [] ys h = (tt, h, tt)
apart_split (x ∷ xs) ys h = (let r = apart_split xs ys h.1 in let l = lacks_split x xs ys h.0 in ((l.0, r.0), r.1, (l.1, r.2)))

pub apart_merge : (xs ys : List Place) → AreApart xs → AreApart ys → AreDisjoint xs ys → AreApart (xs ++ ys)
apart_merge [] ys a b d = b
apart_merge (x ∷ xs) ys a b d = (lacks_merge x xs ys a.0 d.0, apart_merge xs ys a.1 b d.1)

pub disjoint_rest : (xs : List Place) (y : Place) (ys : List Place) → AreDisjoint xs (y ∷ ys) → AreDisjoint xs ys × Lacks y xs
disjoint_rest [] y ys d = (tt, tt)
disjoint_rest (x ∷ xs) y ys d = (let r = disjoint_rest xs y ys d.1 in ((d.0.1, r.0), (λ e. d.0.0 (sym e), r.1)))

pub disjoint_more : (xs : List Place) (y : Place) (ys : List Place) → AreDisjoint xs ys → Lacks y xs → AreDisjoint xs (y ∷ ys)
disjoint_more [] y ys d l = tt
disjoint_more (x ∷ xs) y ys d l = ((λ e. l.0 (sym e), d.0), disjoint_more xs y ys d.1 l.1)

pub room_split : (xs ys : List Place) → HaveRoom (xs ++ ys) → HaveRoom xs × HaveRoom ys
room_split [] ys h = (tt, h)
room_split (x ∷ xs) ys h = (let r = room_split xs ys h.1 in ((h.0, r.0), r.1))

pub room_merge : (xs ys : List Place) → HaveRoom xs → HaveRoom ys → HaveRoom (xs ++ ys)
room_merge [] ys h k = k
room_merge (x ∷ xs) ys h k = (h.0, room_merge xs ys h.1 k)

-- the first and the last of lists
pub first_append : (other : Option Place) (xs ys : List Place) → first_or other (xs ++ ys) ≡ first_or (first_or other ys) xs
first_append other [] ys = refl
first_append other (x ∷ xs) ys = refl

pub last_append : (other : Option Place) (xs ys : List Place) → last_or other (xs ++ ys) ≡ last_or (last_or other xs) ys
last_append other [] ys = refl
last_append other (x ∷ xs) ys = last_append (Some x) xs ys

pub last_past : (p : Place) (o : Option Place) (xs : List Place) → o ≢ Some p → Lacks p xs → last_or o xs ≢ Some p
last_past p o [] far l = far
last_past p o (x ∷ xs) far l = last_past p (Some x) xs (λ e. l.0 (some_is e)) l.1

pub last_out : (o : Option Place) (xs ys : List Place) → LacksAny o ys → AreDisjoint xs ys → LacksAny (last_or o xs) ys
last_out o [] ys l d = l
last_out o (x ∷ xs) ys l d = last_out (Some x) xs ys d.0 d.1

pub first_out : (xs ys : List Place) → AreDisjoint xs ys → LacksAny (first_or None ys) xs
first_out xs [] d = tt
first_out xs (y ∷ ys) d = (disjoint_rest xs y ys d).1

pub none_some : (p : Place) → None ≢ Some p
none_some p e = (let clash : None ≡ Some p = e in absurd cc)

pub any_past : (o : Option Place) (x : Place) (xs : List Place) → LacksAny o (x ∷ xs) → (o ≢ Some x) × LacksAny o xs
any_past None x xs l = (none_some x, tt)
any_past (Some p) x xs l = (λ e. l.0 (sym (some_is e)), l.1)

pub first_past : (p : Place) (ys : List Place) → Lacks p ys → first_or None ys ≢ Some p
first_past p [] l = none_some p
first_past p (y ∷ ys) l = λ e. l.0 (some_is e)

-- ---- chains

module _ (live : Live) where
  pub linked_split : (before : Option Place) (xs ys : List Place) (behind : Option Place) → AreLinked live before (xs ++ ys) behind
      → AreLinked live before xs (first_or behind ys) × AreLinked live (last_or before xs) ys behind
  linked_split before [] ys behind h = (tt, h)
  linked_split before (x ∷ xs) ys behind h =
      (let r = linked_split (Some x) xs ys behind h.2 in ((h.0, h.1 ∙ ap link_to (first_append behind xs ys), r.0), r.1))

  pub linked_merge : (before : Option Place) (xs ys : List Place) (behind : Option Place) → AreLinked live before xs (first_or behind ys)
      → AreLinked live (last_or before xs) ys behind → AreLinked live before (xs ++ ys) behind
  linked_merge before [] ys behind h k = k
  linked_merge before (x ∷ xs) ys behind h k = (h.0, h.1 ∙ ap link_to (sym (first_append behind xs ys)), linked_merge (Some x) xs ys behind h.2 k)

-- where links of others change
pub linked_kept : (a b : Option Place) (old new : Live) → JoinsLinks a b old new → (before : Option Place) (xs : List Place) (behind : Option Place)
    → LacksAny a xs → LacksAny b xs → AreLinked old before xs behind → AreLinked new before xs behind
linked_kept a b old new j before [] behind la lb h = tt
linked_kept a b old new j before (x ∷ xs) behind la lb h =
    let pa = any_past a x xs la in let pb = any_past b x xs lb in
    (j.newer_others x pb.0 ∙ h.0, j.older_others x pa.0 ∙ h.1, linked_kept a b old new j (Some x) xs behind pa.1 pb.1 h.2)

-- the last row is linked to another one behind it
pub behind_joined : (a b : Option Place) (old new : Live) → JoinsLinks a b old new → (before : Option Place) (xs : List Place) (behind : Option Place)
    → a ≡ last_or before xs → LacksAny b xs → AreApart xs → AreLinked old before xs behind → AreLinked new before xs b
behind_joined a b old new j before [] behind is lb ap_ h = tt
behind_joined a b old new j before (x ∷ []) behind is lb ap_ h = (j.newer_others x (any_past b x [] lb).0 ∙ h.0, j.older x is, tt)
behind_joined a b old new j before (x ∷ y ∷ ys) behind is lb ap_ h =
    let pb = any_past b x (y ∷ ys) lb in
    let far : a ≢ Some x = λ e. last_past x (Some y) ys (λ q. (ap_.0).0 (some_is q)) (ap_.0).1 (sym is ∙ e) in
    (j.newer_others x pb.0 ∙ h.0, j.older_others x far ∙ h.1, behind_joined a b old new j (Some x) (y ∷ ys) behind is pb.1 ap_.1 h.2)

-- the first row is linked to another one before it
pub before_joined : (a b : Option Place) (old new : Live) → JoinsLinks a b old new → (before : Option Place) (ys : List Place) (behind : Option Place)
    → b ≡ first_or behind ys → LacksAny a ys → AreApart ys → AreLinked old before ys behind → AreLinked new a ys behind
before_joined a b old new j before [] behind is la ap_ h = tt
before_joined a b old new j before (y ∷ ys) behind is la ap_ h =
    let pa = any_past a y ys la in
    (j.newer y is, j.older_others y pa.0 ∙ h.1, linked_kept a b old new j (Some y) ys behind pa.1 (subst (λ o. LacksAny o ys) (sym is) ap_.0) h.2)

-- a row is taken out
pub unlinked : (old new : Live) (xs : List Place) (y : Place) (ys : List Place) → JoinsLinks (last_or None xs) (first_or None ys) old new
    → AreApart (xs ++ y ∷ ys) → AreLinked old None (xs ++ y ∷ ys) None → AreLinked new None (xs ++ ys) None
unlinked old new xs y ys j are h =
    let s = apart_split xs (y ∷ ys) are in let d = disjoint_rest xs y ys s.2 in
    let l = linked_split old None xs (y ∷ ys) None h in
    linked_merge new None xs ys None
    (behind_joined (last_or None xs) (first_or None ys) old new j None xs (Some y) refl (first_out xs ys d.0) s.0 l.0)
    (before_joined (last_or None xs) (first_or None ys) old new j (Some y) ys None refl (last_out None xs ys tt d.0) s.1.1 l.1.2)

-- one of two links was right already
pub joined_behind : (a : Option Place) (q : Place) (old new : Live) → LinksBehind a (Some q) old new → newer_at old q ≡ link_to a → JoinsLinks a (Some q) old new
joined_behind a q old new f was = record {
  older = f.here;
  newer = λ p e. subst (λ x. newer_at new x ≡ link_to a) (some_is e) (f.newer q ∙ was);
  older_others = f.others;
  newer_others = λ p far. f.newer p;
}

pub joined_before : (q : Place) (b : Option Place) (old new : Live) → LinksBefore (Some q) b old new → older_at old q ≡ link_to b → JoinsLinks (Some q) b old new
joined_before q b old new g was = record {
  older = λ p e. subst (λ x. older_at new x ≡ link_to b) (some_is e) (g.older q ∙ was);
  newer = g.here;
  older_others = λ p far. g.older p;
  newer_others = g.others;
}

-- where the links of a row that is none of them change
linked_past : (p : Place) (newer older : Option Place) (old new : Live) → SetsLinks p newer older old new → (before : Option Place) (xs : List Place) (behind : Option Place)
    → Lacks p xs → AreLinked old before xs behind → AreLinked new before xs behind
linked_past p newer older old new w before [] behind l h = tt
linked_past p newer older old new w before (x ∷ xs) behind l h =
    (w.newer_others x l.0 ∙ h.0, w.older_others x l.0 ∙ h.1, linked_past p newer older old new w (Some x) xs behind l.1 h.2)

-- a row is put in front
pub fronted : (old middle new : Live) (p : Place) (ps : List Place) → SetsLinks p None (first_or None ps) old middle → LinksBefore (Some p) (first_or None ps) middle new
    → Lacks p ps → AreApart ps → AreLinked old None ps None → AreLinked new None (p ∷ ps) None
fronted old middle new p ps first second lacks are h =
    let j = joined_before p (first_or None ps) middle new second first.older in (
      j.newer_others p (first_past p ps lacks) ∙ first.newer,
      j.older p refl,
      before_joined (Some p) (first_or None ps) middle new j None ps None refl lacks are (linked_past p None (first_or None ps) old middle first None ps None lacks h),
    )

-- a row stands elsewhere
pub relocated : (old middle new : Live) (from to : Place) (xs ys : List Place)
    → JoinsLinks (last_or None xs) (Some to) old middle → JoinsLinks (Some to) (first_or None ys) middle new
    → AreApart (xs ++ from ∷ ys) → Lacks to xs → Lacks to ys → AreLinked old None (xs ++ from ∷ ys) None → AreLinked new None (xs ++ to ∷ ys) None
relocated old middle new from to xs ys first second are to_xs to_ys h =
    let s = apart_split xs (from ∷ ys) are in let d = disjoint_rest xs from ys s.2 in
    let l = linked_split old None xs (from ∷ ys) None h in
    let a = last_or None xs in let b = first_or None ys in
    let far : b ≢ Some to = first_past to ys to_ys in
    linked_merge new None xs (to ∷ ys) None
    (linked_kept (Some to) b middle new second None xs (Some to) to_xs (first_out xs ys d.0)
    (behind_joined a (Some to) old middle first None xs (Some from) refl to_xs s.0 l.0)) (
      second.newer_others to far ∙ first.newer to refl,
      second.older to refl,
      before_joined (Some to) b middle new second (Some from) ys None refl to_ys s.1.1
          (linked_kept a (Some to) old middle first (Some from) ys None (last_out None xs ys tt d.0) to_ys l.1.2),
    )
