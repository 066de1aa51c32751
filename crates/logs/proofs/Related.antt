-- Two tables whose operations fit alike are searched alike. Rests on the definitions of specs/Search alone.
use Prim.Native.Nat.{ℕ, zero, suc}
use mathlib.Core.Path.{◌≡◌, refl, ap}
use mathlib.Core.Bool.{Bool, true, false}
use mathlib.Core.List.{List}
use Rattle.std.specs.Prelude.{Option, Some, None}
use Rattle.machine.specs.Choice.{◌and◌, assign}
use Rattle.machine.proofs.laws.Base.{if_elim₂, and_parts}
use Rattle.logs.specs.Search.{starting, ready, begun, opened, tries, search}
use Rattle.logs.proofs.Left.{left_before}

-- neither fits, or both fit and leave related tables
abbrev pub SameFit : {A B : Type 0} → (A → B → Type 0) → Option A → Option B → Type 0
SameFit R None None = Unit {0}
SameFit R None (Some y) = ⊥
SameFit R (Some x) None = ⊥
SameFit R (Some x) (Some y) = R x y

module _ (T T' : Type 0) (n : ℕ) (fits : T → ℕ → Option T) (fits' : T' → ℕ → Option T') (earlier : ℕ → ℕ → Bool)
    (R : T → T' → Type 0) (P : ℕ → Bool)
    (alike : (t : T) (t' : T') (i : ℕ) → R t t' → P i ≡ true → SameFit R (fits t i) (fits' t' i)) where
  -- places that are left pass P
  abbrev Within : (ℕ → Bool) → Type 0
  Within left = (i : ℕ) → left i ≡ true → P i ≡ true

  opened_alike : (left : ℕ → Bool) → Within left → (t : T) (t' : T') (i : ℕ) → R t t'
      → SameFit R (opened T n fits earlier left t i) (opened T' n fits' earlier left t' i)
  unfolding opened ready
  opened_alike left within t t' i r =
      if_elim₂ (SameFit R) (left i and ready T n fits earlier left i) (fits t i) None (fits' t' i) None
      (λ e. alike t t' i r (within i (and_parts (left i) (ready T n fits earlier left i) e).0)) (λ e. tt)

  module _ (next : (ℕ → Bool) → T → Option (List ℕ)) (next' : (ℕ → Bool) → T' → Option (List ℕ)) (left : ℕ → Bool)
      (within : Within left)
      (same : (i : ℕ) (t : T) (t' : T') → R t t' → next (assign left i false) t ≡ next' (assign left i false) t') where
    begun_alike : (i : ℕ) (u : Option T) (u' : Option T') → SameFit R u u'
        → begun T n fits earlier next left i u ≡ begun T' n fits' earlier next' left i u'
    unfolding begun
    begun_alike i None None r = refl
    begun_alike i None (Some t') r = absurd r
    begun_alike i (Some t) None r = absurd r
    begun_alike i (Some t) (Some t') r = ap (starting i) (same i t t' r)

    tries_alike : (t : T) (t' : T') → R t t' → (k i : ℕ)
        → tries T n fits earlier next left t k i ≡ tries T' n fits' earlier next' left t' k i
    unfolding tries
    tries_alike t t' r zero i = refl
    tries_alike t t' r (suc k) i =
        let u = opened T n fits earlier left t i in
        let e = begun_alike i u (opened T' n fits' earlier left t' i) (opened_alike left within t t' i r) in
        let f = tries_alike t t' r k (suc i) in
        cc

  pub search_related : (m : ℕ) (left : ℕ → Bool) → ((i : ℕ) → left i ≡ true → P i ≡ true) → (t : T) (t' : T') → R t t'
      → search T n fits earlier m left t ≡ search T' n fits' earlier m left t'
  unfolding search
  search_related zero left within t t' r = refl
  search_related (suc m) left within t t' r =
      tries_alike (search T n fits earlier m) (search T' n fits' earlier m) left within
      (λ i u u'. search_related m (assign left i false) (λ j e. within j (left_before left i j e)) u u') t t' r n 0
