-- Both cuts leave the search as it is, by induction on what is left. Rests on SearchLaws.
use Prim.Native.Nat.{ℕ, zero, suc, ◌+◌, ◌<◌}
use native.Mathlib.Omega.{arith}
use native.Mathlib.Decide.{ℕ_discrete}
use mathlib.Core.Path.{◌≡◌, refl, sym, ap, ◌∙◌, subst}
use mathlib.Core.Logic.{◌≢◌, ◌⊎◌, inl, inr, ⊎_elim, by_cases}
use mathlib.Core.Bool.{Bool, true, false, not}
use mathlib.Core.List.{List, [], ◌∷◌}
use Rattle.std.specs.Prelude.{Option, Some, None}
use borrow.Author.Tests.{not-true, ltb-true}
use Rattle.machine.specs.Choice.{assign}
use Rattle.machine.proofs.laws.Base.{no_both, none_some, below_suc, if_elim, and_parts}
use Rattle.logs.specs.Search.{CutLaws, SearchLaws, starting, or_else, count_left, ready, Completes, begun, opened, tries, search, is_same, exchanged_from, exchanged, unless_exchanged, candidate, unless_still, cut_begun, cut_tries, cut_search}
use Rattle.logs.proofs.Left.{left_before, not_taken, others_left, taken_both, left_less}
use Rattle.logs.proofs.SearchLaws.{ready_at, ready_of, ready_fewer, opened_parts, opened_is, tries_order, sound_at, first_at}

module _ (T : Type 0) (n : ℕ) (fits : T → ℕ → Option T) (earlier : ℕ → ℕ → Bool) where
  abbrev IsReady : (ℕ → Bool) → ℕ → Type 0
  IsReady left i = ready T n fits earlier left i ≡ true

  abbrev Order : (ℕ → Bool) → T → List ℕ → Type 0
  Order = Completes T n fits earlier

  abbrev Opened : (ℕ → Bool) → T → ℕ → Option T
  Opened = opened T n fits earlier

  -- no order completes what is left
  abbrev Lost : (ℕ → Bool) → T → Type 0
  Lost left t = (o : List ℕ) → Order left t o → ⊥

  -- none begins with i
  abbrev LostFrom : (ℕ → Bool) → T → ℕ → Type 0
  LostFrom left t i = (o : List ℕ) → Order left t (i ∷ o) → ⊥

  none_of : {A : Type 0} (v : Option A) → ((x : A) → v ≡ Some x → ⊥) → v ≡ None
  none_of None h = refl
  none_of (Some x) h = absurd (h x refl)

  lost_none : (m : ℕ) (left : ℕ → Bool) (t : T) → count_left n left ≡ m → Lost left t → search T n fits earlier m left t ≡ None
  lost_none m left t z lost =
      none_of (search T n fits earlier m left t) (λ o e. lost o (sound_at T n fits earlier m left t o z e))

  none_lost : (m : ℕ) (left : ℕ → Bool) (t : T) → count_left n left ≡ m → search T n fits earlier m left t ≡ None → Lost left t
  none_lost m left t z e o c = none_some e (first_at T n fits earlier m left t o z c).1.0

  closed_lost : (left : ℕ → Bool) (t : T) (i : ℕ) → Opened left t i ≡ None → LostFrom left t i
  closed_lost left t i w o c =
      none_some w (opened_is T n fits earlier left t i c.1.1.1.0 c.1.0 c.1.1.0 c.1.1.1.1.0)

  opened_lost : (left : ℕ → Bool) (t : T) (i : ℕ) (u : T) → Opened left t i ≡ Some u
      → Lost (assign left i false) u → LostFrom left t i
  opened_lost left t i u w lost o c =
      let f = (opened_parts T n fits earlier left t i u w).1.1 in
      let g = c.1.1.1.1.0 in
      let e : c.1.1.1.0 ≡ u = cc in
      lost o (subst (λ x. Order (assign left i false) x o) e c.1.1.1.1.1)

  -- ---- for cut 2: an operation that leaves every table as it is may come first

  to_front : (i : ℕ) → i < n → ((t u : T) → fits t i ≡ Some u → u ≡ t) → (o : List ℕ) (left : ℕ → Bool) (t : T) → left i ≡ true
      → Order left t o → (p : List ℕ) × Order (assign left i false) t p
  to_front i l idle [] left t e c = absurd (no_both e (c i l))
  to_front i l idle (j ∷ o) left t e c =
      by_cases (ℕ_discrete j i) here
      (λ z. there z (to_front i l idle o (assign left j false) u (others_left left j i (λ y. z (sym y)) e) rest))
    where
      u : T
      u = c.1.1.1.0

      rest : Order (assign left j false) u o
      rest = c.1.1.1.1.1

      Result : Type 0
      Result = (p : List ℕ) × Order (assign left i false) t p

      here : j ≡ i → Result
      here z =
          let same = idle t u (ap (fits t) (sym z) ∙ c.1.1.1.1.0) in
          (o, subst (λ x. Order (assign left i false) x o) same (subst (λ k. Order (assign left k false) u o) z rest))

      there : j ≢ i → (p : List ℕ) × Order (assign (assign left j false) i false) u p → Result
      there z h =
          let r = ready_fewer T n fits earlier left (assign left i false) j (left_before left i) c.1.1.0 in
          let d = subst (λ f. Order f u h.0) (taken_both left j i) h.1 in
          (j ∷ h.0, (c.0, (others_left left i j z c.1.0, (r, (u, (c.1.1.1.1.0, d))))))

  -- ---- for cut 1: two operations exchanged

  exchange : (left : ℕ → Bool) (t t₁ t₂ : T) (i j : ℕ) (o : List ℕ) → i < n → left i ≡ true → IsReady left i → j < n
      → assign left i false j ≡ true → IsReady (assign left i false) j → earlier i j ≡ false → fits t j ≡ Some t₁ → fits t₁ i ≡ Some t₂
      → Order (assign (assign left i false) j false) t₂ o → Order left t (j ∷ i ∷ o)
  exchange left t t₁ t₂ i j o li ei ri lj ej rj x f g c =
      (lj, (left_before left i j ej, (first, (t₁, (f, (li, (i_left, (second, (t₂, (g, rest))))))))))
    where
      i_left : assign left j false i ≡ true
      i_left = others_left left j i (λ z. not_taken left i j ej (sym z)) ei

      first : IsReady left j
      first = ready_of T n fits earlier left j (λ k l e. by_cases (ℕ_discrete k i) (λ z. ap (λ y. earlier y j) z ∙ x)
          (λ z. ready_at T n fits earlier (assign left i false) j rj k l (others_left left i k z e)))

      second : IsReady (assign left j false) i
      second = ready_fewer T n fits earlier left (assign left j false) i (left_before left j) ri

      rest : Order (assign (assign left j false) i false) t₂ o
      rest = subst (λ h. Order h t₂ o) (taken_both left i j) c

  module _ (still : ℕ → Bool) (same : T → T → Bool) (idle : (i : ℕ) (t u : T) → still i ≡ true → fits t i ≡ Some u → u ≡ t)
      (equal : (t u : T) → same t u ≡ true → t ≡ u) where
    abbrev Exchanged : T → ℕ → T → ℕ → Type 0
    Exchanged t₀ last u i = exchanged T n fits earlier still same t₀ last u i ≡ true

    -- the operation at i, which leaves u, unless it could be exchanged
    abbrev Cut1 : T → ℕ → ℕ → T → Option T
    Cut1 t₀ last i u = unless_exchanged T n fits earlier still same t₀ last i (Some u)

    exchanged_parts : (t₀ : T) (last : ℕ) (u : T) (i : ℕ) → Exchanged t₀ last u i
        → (earlier last i ≡ false) × ((t₁ : T) × ((fits t₀ i ≡ Some t₁) × (fits t₁ last ≡ Some u)))
    unfolding exchanged exchanged_from is_same
    exchanged_parts t₀ last u i e = (not-true (earlier last i) z.0, one (fits t₀ i) refl z.1)
      where
        z : (not (earlier last i) ≡ true) × (exchanged_from T n fits earlier still same last u (fits t₀ i) ≡ true)
        z = and_parts (not (earlier last i)) (exchanged_from T n fits earlier still same last u (fits t₀ i)) e

        two : (t₁ : T) (v : Option T) → fits t₁ last ≡ v → is_same T n fits earlier still same u v ≡ true → fits t₁ last ≡ Some u
        two t₁ None w e = absurd (no_both e refl)
        two t₁ (Some x) w e = w ∙ ap Some (sym (equal u x e))

        one : (v : Option T) → fits t₀ i ≡ v → exchanged_from T n fits earlier still same last u v ≡ true
            → (t₁ : T) × ((fits t₀ i ≡ Some t₁) × (fits t₁ last ≡ Some u))
        one None w e = absurd (no_both e refl)
        one (Some t₁) w e = (t₁, (w, two t₁ (fits t₁ last) refl e))

    -- cut 1 leaves out lower places only
    cut_parts : (t₀ : T) (last i : ℕ) (u : T)
        → (Cut1 t₀ last i u ≡ Some u) ⊎ ((Cut1 t₀ last i u ≡ None) × ((i < last) × Exchanged t₀ last u i))
    unfolding unless_exchanged
    cut_parts t₀ last i u =
        if_elim (λ (x : Option T). (x ≡ Some u) ⊎ ((x ≡ None) × ((i < last) × Exchanged t₀ last u i))) _ None (Some u)
        (λ e. let z = and_parts _ _ e in inr (refl, (ltb-true i last z.0, z.1))) (λ e. inl refl)

    -- the invariant: what cut 1 leaves out at a node leads to no order
    abbrev Passed : T → ℕ → (ℕ → Bool) → T → Type 0
    Passed t₀ last left t = (i : ℕ) → i < last → i < n → (u : T) → Opened left t i ≡ Some u → Exchanged t₀ last u i
        → Lost (assign left i false) u

    passed_child : (left : ℕ → Bool) (t : T) (i : ℕ) → i < n → ((j : ℕ) → j < i → LostFrom left t j) → (u : T)
        → Opened left t i ≡ Some u → Passed t i (assign left i false) u
    passed_child left t i l tried u w j below lj t₂ v x o c =
        let z = opened_parts T n fits earlier left t i u w in
        let y = opened_parts T n fits earlier (assign left i false) u j t₂ v in
        let e = exchanged_parts t i t₂ j x in
        tried j below (i ∷ o)
        (exchange left t e.1.0 t₂ i j o l z.0 z.1.0 lj y.0 y.1.0 e.0 e.1.1.0 e.1.1.1 c)

    abbrev Cut : ℕ → T → ℕ → (ℕ → Bool) → T → Option (List ℕ)
    Cut = cut_search T n fits earlier still same

    abbrev Plain : ℕ → (ℕ → Bool) → T → Option (List ℕ)
    Plain = search T n fits earlier

    -- ---- the places of one node

    module _ (m : ℕ) (left : ℕ → Bool) (t : T) (count : count_left n left ≡ suc m) where
      abbrev Later : ℕ → ℕ → Option (List ℕ)
      Later k i = tries T n fits earlier (Plain m) left t k i

      one_less : (i : ℕ) → i < n → left i ≡ true → count_left n (assign left i false) ≡ m
      one_less i l e = let k = left_less n left i l e in omega arith

      -- cut 2: no order at all
      none_later : (k i : ℕ) (u : T) → suc i + k ≡ n → Opened left t i ≡ Some u → Lost (assign left i false) u
          → still i ≡ true → Later k (suc i) ≡ None
      none_later k i u a w lost s = none_of (Later k (suc i)) (λ p e. let f = front p (order p e) in lost_here f.0 f.1)
        where
          parts : (left i ≡ true) × (IsReady left i × (fits t i ≡ Some u))
          parts = opened_parts T n fits earlier left t i u w

          lost_here : Lost (assign left i false) t
          lost_here = subst (Lost (assign left i false)) (idle i t u s parts.1.1) lost

          order : (p : List ℕ) → Later k (suc i) ≡ Some p → Order left t p
          order =
              tries_order T n fits earlier (Plain m) left t
              (λ j v o l e. sound_at T n fits earlier m (assign left j false) v o (one_less j l e)) k (suc i) a

          front : (p : List ℕ) → Order left t p → (q : List ℕ) × Order (assign left i false) t q
          front p = to_front i (omega arith) (λ x y. idle i x y s) p left t parts.0

      -- a place that is tried, with what its branch finds
      after_branch : (k i : ℕ) (u : T) → suc i + k ≡ n → Opened left t i ≡ Some u → (cut_later : Option (List ℕ))
          → (LostFrom left t i → cut_later ≡ Later k (suc i)) → (v : Option (List ℕ)) → Plain m (assign left i false) u ≡ v
          → unless_still T n fits earlier still same i v cut_later ≡ or_else (starting i v) (Later k (suc i))
      unfolding unless_still or_else starting
      after_branch k i u a w cut_later later (Some o) e = refl
      after_branch k i u a w cut_later later None e =
          let c = one_less i (omega arith) (opened_parts T n fits earlier left t i u w).0 in
          let lost = none_lost m (assign left i false) u c e in
          if_elim (λ x. x ≡ Later k (suc i)) (still i) None cut_later (λ s. sym (none_later k i u a w lost s))
          (λ s. later (opened_lost left t i u w lost))

      module _ (t₀ : T) (last : ℕ) (passed : Passed t₀ last left t)
          (child : (i : ℕ) (u : T) → count_left n (assign left i false) ≡ m → Passed t i (assign left i false) u
          → Cut m t i (assign left i false) u ≡ Plain m (assign left i false) u) where
        abbrev CutLater : ℕ → ℕ → Option (List ℕ)
        CutLater k i = cut_tries T n fits earlier still same (Cut m) t₀ last left t k i

        abbrev CutBegun : ℕ → ℕ → Option T → Option (List ℕ)
        CutBegun k i v = cut_begun T n fits earlier still same (Cut m) left t i v (CutLater k (suc i))

        -- the plain search, where the operation at i leaves u
        abbrev From : ℕ → ℕ → T → Option (List ℕ)
        From k i u = or_else (starting i (Plain m (assign left i false) u)) (Later k (suc i))

        at_place : (k i : ℕ) → suc i + k ≡ n → ((j : ℕ) → j < i → LostFrom left t j)
            → (LostFrom left t i → CutLater k (suc i) ≡ Later k (suc i)) → (v : Option T) → Opened left t i ≡ v
            → CutBegun k i (unless_exchanged T n fits earlier still same t₀ last i v)
            ≡ or_else (begun T n fits earlier (Plain m) left i v) (Later k (suc i))
        unfolding cut_begun unless_exchanged or_else begun starting
        at_place k i a tried later None w = later (closed_lost left t i w)
        at_place k i a tried later (Some u) w = ⊎_elim taken out (cut_parts t₀ last i u)
          where
            count_child : count_left n (assign left i false) ≡ m
            count_child = one_less i (omega arith) (opened_parts T n fits earlier left t i u w).0

            out : (Cut1 t₀ last i u ≡ None) × ((i < last) × Exchanged t₀ last u i) → CutBegun k i (Cut1 t₀ last i u) ≡ From k i u
            out (e, (below, x)) =
                let lost = passed i below (omega arith) u w x in
                rw (e, lost_none m (assign left i false) u count_child lost) (later (opened_lost left t i u w lost))

            taken : Cut1 t₀ last i u ≡ Some u → CutBegun k i (Cut1 t₀ last i u) ≡ From k i u
            taken e =
                rw (e, child i u count_child (passed_child left t i (omega arith) tried u w))
                (after_branch k i u a w (CutLater k (suc i)) later (Plain m (assign left i false) u) refl)

        at_places : (k i : ℕ) → i + k ≡ n → ((j : ℕ) → j < i → LostFrom left t j) → CutLater k i ≡ Later k i
        unfolding cut_tries tries candidate
        at_places zero i a tried = refl
        at_places (suc k) i a tried =
            at_place k i (omega arith) tried (λ h. at_places k (suc i) (omega arith) (below_suc (LostFrom left t) i tried h))
            (Opened left t i) refl

    -- ---- the whole search, with m left

    cut_plain : (m : ℕ) (t₀ : T) (last : ℕ) (left : ℕ → Bool) (t : T) → count_left n left ≡ m → Passed t₀ last left t
        → Cut m t₀ last left t ≡ Plain m left t
    unfolding cut_search search
    cut_plain zero t₀ last left t z passed = refl
    cut_plain (suc m) t₀ last left t z passed =
        at_places m left t z t₀ last passed (λ i u. cut_plain m t i (assign left i false) u) n 0 (omega arith)
        (λ j l. absurd (omega arith))

    cut_laws : CutLaws T n fits earlier still same
    cut_laws =
        record {
          as_plain = as_plain;
          finds_first = λ t₀. record {
            sound = λ left t o e. sound_at T n fits earlier (count_left n left) left t o refl (sym (as_plain left t₀ t) ∙ e);
            first = λ left t o c.
                let f = first_at T n fits earlier (count_left n left) left t o refl c in
                (f.0, (as_plain left t₀ t ∙ f.1.0, f.1.1));
          };
        }
      where
        as_plain : (left : ℕ → Bool) (t₀ t : T) → Cut (count_left n left) t₀ 0 left t ≡ Plain (count_left n left) left t
        as_plain left t₀ t = cut_plain (count_left n left) t₀ 0 left t refl (λ i l. absurd (omega arith))

  pub search_laws : SearchLaws T n fits earlier
  search_laws =
      record {
        plain = record {
          sound = λ left t o. sound_at T n fits earlier (count_left n left) left t o refl;
          first = λ left t o. first_at T n fits earlier (count_left n left) left t o refl;
        };
        cuts = cut_laws;
      }
