-- The plain search: what it finds is an order of all that is left, and where there is one it finds the first. Rests on Left and on
-- ComparingLaws.
use Prim.Native.Nat.{ℕ, zero, suc, ◌+◌, ◌≤◌, ◌<◌}
use native.Mathlib.Omega.{arith}
use native.Mathlib.Decide.{ℕ_discrete}
use mathlib.Core.Path.{◌≡◌, refl, sym, ap, ◌∙◌, subst}
use mathlib.Core.Logic.{by_cases}
use mathlib.Core.Bool.{Bool, true, false, not}
use mathlib.Core.List.{List, [], ◌∷◌}
use Rattle.std.specs.Prelude.{Option, Some, None}
use Rattle.std.proofs.lemmas.Option.{same_Some}
use lib.ListN.{length}
use borrow.Author.Tests.{not-true}
use Rattle.machine.specs.Choice.{◌and◌, assign}
use Rattle.machine.proofs.laws.Base.{none_some, if_elim, if_true, and_true, and_parts, and_right}
use Rattle.logs.specs.Search.{starting, or_else, count_left, ready, Completes, begun, opened, tries, search}
use Rattle.logs.specs.Comparing.{NotAfter}
use Rattle.logs.proofs.Left.{all_at, all_of, left_less, none_left, all_taken}
use Rattle.logs.proofs.ComparingLaws.{lower_first, same_first, nothing_first}

not_and : (x y : Bool) → (x ≡ true → y ≡ false) → not (x and y) ≡ true
unfolding ◌and◌
not_and true y h = rw (h refl)
not_and false y h = refl

module _ (T : Type 0) (n : ℕ) (fits : T → ℕ → Option T) (earlier : ℕ → ℕ → Bool) where
  abbrev IsReady : (ℕ → Bool) → ℕ → Type 0
  IsReady left i = ready T n fits earlier left i ≡ true

  abbrev Order : (ℕ → Bool) → T → List ℕ → Type 0
  Order = Completes T n fits earlier

  abbrev Next : Type 0
  Next = (ℕ → Bool) → T → Option (List ℕ)

  -- ---- one place

  pub ready_at : (left : ℕ → Bool) (i : ℕ) → IsReady left i → (j : ℕ) → j < n → left j ≡ true → earlier j i ≡ false
  unfolding ready
  ready_at left i r j l =
      and_right (left j) (earlier j i) (not-true (left j and earlier j i) (all_at n (λ k. not (left k and earlier k i)) r j l))

  pub ready_of : (left : ℕ → Bool) (i : ℕ) → ((j : ℕ) → j < n → left j ≡ true → earlier j i ≡ false) → IsReady left i
  unfolding ready
  ready_of left i h = all_of n (λ k. not (left k and earlier k i)) (λ j l. not_and (left j) (earlier j i) (h j l))

  -- with fewer left
  pub ready_fewer : (f g : ℕ → Bool) (i : ℕ) → ((j : ℕ) → g j ≡ true → f j ≡ true) → IsReady f i → IsReady g i
  ready_fewer f g i h r = ready_of g i (λ j l e. ready_at f i r j l (h j e))

  pub opened_parts : (left : ℕ → Bool) (t : T) (i : ℕ) (u : T) → opened T n fits earlier left t i ≡ Some u
      → (left i ≡ true) × (IsReady left i × (fits t i ≡ Some u))
  unfolding opened
  opened_parts left t i u = if_elim (λ o. o ≡ Some u → (left i ≡ true) × (IsReady left i × (fits t i ≡ Some u)))
      (left i and ready T n fits earlier left i) (fits t i) None
      (λ e f. let z = and_parts (left i) (ready T n fits earlier left i) e in (z.0, (z.1, f)))
      (λ e f. absurd (none_some refl f))

  pub opened_is : (left : ℕ → Bool) (t : T) (i : ℕ) (u : T) → left i ≡ true → IsReady left i → fits t i ≡ Some u
      → opened T n fits earlier left t i ≡ Some u
  unfolding opened
  opened_is left t i u l r f = if_true (fits t i) None (and_true l r) ∙ f

  -- ---- the places of one node, where `next` searches for the rest

  module _ (next : Next) (left : ℕ → Bool) (t : T) where
    abbrev Begun : ℕ → Option (List ℕ)
    Begun i = begun T n fits earlier next left i (opened T n fits earlier left t i)

    pub begun_is : (i : ℕ) (u : T) (o : List ℕ) → opened T n fits earlier left t i ≡ Some u → next (assign left i false) u ≡ Some o
        → Begun i ≡ Some (i ∷ o)
    unfolding begun starting
    begun_is i u o f e = rw (f, e)

    begun_head : (i : ℕ) (q : List ℕ) → Begun i ≡ Some q → (o : List ℕ) × (q ≡ i ∷ o)
    unfolding begun starting
    begun_head i q = on (opened T n fits earlier left t i)
      where
        rest : (v : Option (List ℕ)) → starting i v ≡ Some q → (o : List ℕ) × (q ≡ i ∷ o)
        rest None e = absurd (none_some refl e)
        rest (Some o) e = (o, cc)

        on : (u : Option T) → begun T n fits earlier next left i u ≡ Some q → (o : List ℕ) × (q ≡ i ∷ o)
        on None e = absurd (none_some refl e)
        on (Some u) e = rest (next (assign left i false) u) e

    -- the lowest place decides, where it begins an order
    tries_here : (k i : ℕ) (q : List ℕ) → Begun i ≡ Some q → tries T n fits earlier next left t (suc k) i ≡ Some q
    unfolding tries or_else
    tries_here k i q w = rw w

    tries_past : (k i : ℕ) → Begun i ≡ None → tries T n fits earlier next left t (suc k) i ≡ tries T n fits earlier next left t k (suc i)
    unfolding tries or_else
    tries_past k i w = rw w

    -- one place that begins an order is enough; the order found is not after that one
    pub tries_found : (y : ℕ) (p o : List ℕ) → Begun y ≡ Some (y ∷ p) → NotAfter p o → (k i : ℕ) → i ≤ y → y < i + k
        → (q : List ℕ) × ((tries T n fits earlier next left t k i ≡ Some q) × NotAfter q (y ∷ o))
    tries_found y p o e f zero i a b = absurd (omega arith)
    tries_found y p o e f (suc k) i a b =
        go (Begun i) refl (λ z. tries_found y p o e f k (suc i) (omega arith) (omega arith))
      where
        Result : ℕ → ℕ → Type 0
        Result k i = (q : List ℕ) × ((tries T n fits earlier next left t k i ≡ Some q) × NotAfter q (y ∷ o))

        here : (q : List ℕ) → Begun i ≡ Some q → NotAfter q (y ∷ o)
        here q w =
            by_cases (ℕ_discrete i y)
            (λ z. subst (λ x. NotAfter x (y ∷ o)) (same_Some (y ∷ p) q (sym e ∙ ap Begun (sym z) ∙ w)) (same_first y p o f))
            (λ z. let h = begun_head i q w in rw h.1 (lower_first i y h.0 o (omega arith)))

        go : (v : Option (List ℕ)) → Begun i ≡ v → (suc i ≤ y → Result k (suc i)) → Result (suc k) i
        go (Some q) w later = (q, (tries_here k i q w, here q w))
        go None w later =
            by_cases (ℕ_discrete i y) (λ z. absurd (none_some w (ap Begun z ∙ e)))
            (λ z. let r = later (omega arith) in (r.0, (tries_past k i w ∙ r.1.0, r.1.1)))

    module _
        (good : (i : ℕ) (u : T) (o : List ℕ) → i < n → left i ≡ true → next (assign left i false) u ≡ Some o
        → Order (assign left i false) u o) where
      pub begun_order : (i : ℕ) → i < n → (p : List ℕ) → Begun i ≡ Some p → Order left t p
      unfolding begun starting
      begun_order i l p = on (opened T n fits earlier left t i) refl
        where
          on : (u : Option T) → opened T n fits earlier left t i ≡ u → begun T n fits earlier next left i u ≡ Some p → Order left t p
          on None w e = absurd (none_some refl e)
          on (Some u) w e = go (next (assign left i false) u) refl e
            where
              go : (v : Option (List ℕ)) → next (assign left i false) u ≡ v → starting i v ≡ Some p → Order left t p
              go None q e = absurd (none_some refl e)
              go (Some o) q e =
                  let z = opened_parts left t i u w in
                  let h : i ∷ o ≡ p = cc in
                  subst (Order left t) h (l, (z.0, (z.1.0, (u, (z.1.1, good i u o l z.0 q)))))

      pub tries_order : (k i : ℕ) → i + k ≡ n → (p : List ℕ) → tries T n fits earlier next left t k i ≡ Some p → Order left t p
      unfolding tries or_else
      tries_order zero i a p e = absurd (none_some refl e)
      tries_order (suc k) i a p e = go (Begun i) refl e (tries_order k (suc i) (omega arith) p)
        where
          go : (v : Option (List ℕ)) → Begun i ≡ v → or_else v (tries T n fits earlier next left t k (suc i)) ≡ Some p
              → (tries T n fits earlier next left t k (suc i) ≡ Some p → Order left t p) → Order left t p
          go None w e later = later e
          go (Some q) w e later = begun_order i (omega arith) p (w ∙ e)

  -- ---- the whole search, with m left

  pub sound_at : (m : ℕ) (left : ℕ → Bool) (t : T) (p : List ℕ) → count_left n left ≡ m → search T n fits earlier m left t ≡ Some p
      → Order left t p
  unfolding search
  sound_at zero left t p z e = let h : [] ≡ p = cc in subst (Order left t) h (none_left n left z)
  sound_at (suc m) left t p z e =
      tries_order (search T n fits earlier m) left t
      (λ i u o l f. sound_at m (assign left i false) u o (let k = left_less n left i l f in omega arith)) n 0 (omega arith) p e

  pub first_at : (m : ℕ) (left : ℕ → Bool) (t : T) (o : List ℕ) → count_left n left ≡ m → Order left t o
      → (p : List ℕ) × ((search T n fits earlier m left t ≡ Some p) × NotAfter p o)
  unfolding search
  first_at zero left t o z h = ([], (refl, nothing_first o))
  first_at (suc m) left t [] z h = let k = all_taken n left h in absurd (omega arith)
  first_at (suc m) left t (y ∷ o) z h =
      let u = h.1.1.1.0 in
      let l = h.0 in
      let k = left_less n left y l h.1.0 in
      let c = first_at m (assign left y false) u o (omega arith) h.1.1.1.1.1 in
      let f = opened_is left t y u h.1.0 h.1.1.0 h.1.1.1.1.0 in
      tries_found (search T n fits earlier m) left t y c.0 o
      (begun_is (search T n fits earlier m) left t y u c.0 f c.1.0) c.1.1 n 0 (omega arith) (omega arith)

  -- an order has as many places as are left
  pub order_length : (left : ℕ → Bool) (t : T) (o : List ℕ) → Order left t o → length o ≡ count_left n left
  order_length left t [] h = sym (all_taken n left h)
  order_length left t (i ∷ o) h =
      let e = order_length (assign left i false) h.1.1.1.0 o h.1.1.1.1.1 in
      let k = left_less n left i h.0 h.1.0 in
      omega arith
