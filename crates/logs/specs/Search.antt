-- The search for an order of what is left of a log, lowest place first, over any table; and the same search with two
-- cuts. 01, Where each form goes: "Recursive search over remaining logged operations, the number remaining falling,
-- trying lowest place first". Rests on the test of all numbers below one, specs/Log, and on specs/Comparing.
use Rattle.std.specs.Prelude.{ℕ, zero, suc, ◌<◌, ◌≡◌, Bool, true, false, not, List, [], ◌∷◌, ltb, Option, Some, None}
use Rattle.machine.specs.Choice.{when◌then◌else◌, ◌and◌, assign}
use Rattle.logs.specs.Log.{all}
use Rattle.logs.specs.Comparing.{NotAfter}

-- an order found, with i before it
unfoldable pub starting : ℕ → Option (List ℕ) → Option (List ℕ)
starting i None = None
starting i (Some o) = Some (i ∷ o)

-- the first, or else the second
unfoldable pub or_else : Option (List ℕ) → Option (List ℕ) → Option (List ℕ)
or_else None later = later
or_else (Some o) later = Some o

-- how many of the first n are left
unfoldable pub count_left : ℕ → (ℕ → Bool) → ℕ
count_left zero left = 0
count_left (suc n) left = when left n then suc (count_left n left) else count_left n left

-- Places are below n; `fits` is the table after the operation at a place, where the table gives its answer; `earlier`
-- says that an operation was answered before another's call.
module _ (T : Type 0) (n : ℕ) (fits : T → ℕ → Option T) (earlier : ℕ → ℕ → Bool) where
  -- nothing that is left was answered before the call of i
  unfoldable pub ready : (ℕ → Bool) → ℕ → Bool
  ready left i = all n (λ j. not (left j and earlier j i))

  -- an order of all that is left, from a table on
  abbrev pub Completes : (ℕ → Bool) → T → List ℕ → Type 0
  Completes left t [] = (i : ℕ) → i < n → left i ≡ false
  Completes left t (i ∷ o) =
      (i < n) × ((left i ≡ true) × ((ready left i ≡ true)
      × ((t' : T) × ((fits t i ≡ Some t') × Completes (assign left i false) t' o))))

  -- ---- the plain search

  -- the operation at i, which fits, and what `next` makes of the rest
  unfoldable pub begun : ((ℕ → Bool) → T → Option (List ℕ)) → (ℕ → Bool) → ℕ → Option T → Option (List ℕ)
  begun next left i None = None
  begun next left i (Some t') = starting i (next (assign left i false) t')

  -- the table after the operation at i, where it is left, ready and fits
  unfoldable pub opened : (ℕ → Bool) → T → ℕ → Option T
  opened left t i = when left i and ready left i then fits t i else None

  -- k places from i on, the lowest first
  unfoldable pub tries : ((ℕ → Bool) → T → Option (List ℕ)) → (ℕ → Bool) → T → ℕ → ℕ → Option (List ℕ)
  tries next left t zero i = None
  tries next left t (suc k) i = or_else (begun next left i (opened left t i)) (tries next left t k (suc i))

  -- so many are left
  unfoldable pub search : ℕ → (ℕ → Bool) → T → Option (List ℕ)
  search zero left t = Some []
  search (suc m) left t = tries (search m) left t n 0

  -- ---- the search with two cuts

  -- `still` says of a place that its answer leaves every table as it is, `same` compares tables
  module _ (still : ℕ → Bool) (same : T → T → Bool) where
    unfoldable pub is_same : T → Option T → Bool
    is_same t None = false
    is_same t (Some t') = same t t'

    -- i, tried after `last`, could have come before it: from the table before both, t₀, both fit that way round too,
    -- and leave the same table t₂
    unfoldable pub exchanged_from : ℕ → T → Option T → Bool
    exchanged_from last t₂ None = false
    exchanged_from last t₂ (Some t₁) = is_same t₂ (fits t₁ last)

    unfoldable pub exchanged : T → ℕ → T → ℕ → Bool
    exchanged t₀ last t₂ i = not (earlier last i) and exchanged_from last t₂ (fits t₀ i)

    -- Cut 1: an operation of a lower place than the last is not tried where the two could be exchanged, since that
    -- order was tried before.
    unfoldable pub unless_exchanged : T → ℕ → ℕ → Option T → Option T
    unless_exchanged t₀ last i None = None
    unless_exchanged t₀ last i (Some t₂) = when ltb i last and exchanged t₀ last t₂ i then None else Some t₂

    unfoldable pub candidate : T → ℕ → (ℕ → Bool) → T → ℕ → Option T
    candidate t₀ last left t i = unless_exchanged t₀ last i (opened left t i)

    -- Cut 2: where an operation that leaves every table as it is fits and leads to no order, none does.
    unfoldable pub unless_still : ℕ → Option (List ℕ) → Option (List ℕ) → Option (List ℕ)
    unless_still i None later = when still i then None else later
    unless_still i (Some o) later = Some (i ∷ o)

    unfoldable pub cut_begun :
        (T → ℕ → (ℕ → Bool) → T → Option (List ℕ)) → (ℕ → Bool) → T → ℕ → Option T → Option (List ℕ)
        → Option (List ℕ)
    cut_begun next left t i None later = later
    cut_begun next left t i (Some t') later = unless_still i (next t i (assign left i false) t') later

    unfoldable pub cut_tries :
        (T → ℕ → (ℕ → Bool) → T → Option (List ℕ)) → T → ℕ → (ℕ → Bool) → T → ℕ → ℕ → Option (List ℕ)
    cut_tries next t₀ last left t zero i = None
    cut_tries next t₀ last left t (suc k) i =
        cut_begun next left t i (candidate t₀ last left t i) (cut_tries next t₀ last left t k (suc i))

    -- t₀ is the table before the last operation; at the start last is 0 and nothing is below it
    unfoldable pub cut_search : ℕ → T → ℕ → (ℕ → Bool) → T → Option (List ℕ)
    cut_search zero t₀ last left t = Some []
    cut_search (suc m) t₀ last left t = cut_tries (cut_search m) t₀ last left t n 0

-- ---- what is proved of them

-- `find` finds the first order of all that is left, and an order wherever there is one
pub record FindsFirst (T : Type 0) (n : ℕ) (fits : T → ℕ → Option T) (earlier : ℕ → ℕ → Bool)
    (find : (ℕ → Bool) → T → Option (List ℕ)) : Type 0 where
  pub sound :
      (left : ℕ → Bool) (t : T) (o : List ℕ) → find left t ≡ Some o → Completes T n fits earlier left t o
  pub first :
      (left : ℕ → Bool) (t : T) (o : List ℕ) → Completes T n fits earlier left t o
      → (p : List ℕ) × ((find left t ≡ Some p) × NotAfter p o)

-- both cuts leave the search as it is, and so the order that it finds is the first
pub record CutLaws (T : Type 0) (n : ℕ) (fits : T → ℕ → Option T) (earlier : ℕ → ℕ → Bool) (still : ℕ → Bool)
    (same : T → T → Bool) : Type 0 where
  pub as_plain :
      (left : ℕ → Bool) (t₀ t : T)
      → cut_search T n fits earlier still same (count_left n left) t₀ 0 left t
      ≡ search T n fits earlier (count_left n left) left t
  pub finds_first :
      (t₀ : T)
      → FindsFirst T n fits earlier (λ left. cut_search T n fits earlier still same (count_left n left) t₀ 0 left)

-- Where `still` holds of no place, only cut 1 is taken, and where `same` holds of no tables, only cut 2.
pub record SearchLaws (T : Type 0) (n : ℕ) (fits : T → ℕ → Option T) (earlier : ℕ → ℕ → Bool) : Type 0 where
  pub plain : FindsFirst T n fits earlier (λ left. search T n fits earlier (count_left n left) left)
  pub cuts :
      (still : ℕ → Bool) (same : T → T → Bool)
      → ((i : ℕ) (t t' : T) → still i ≡ true → fits t i ≡ Some t' → t' ≡ t)
      → ((t t' : T) → same t t' ≡ true → t ≡ t')
      → CutLaws T n fits earlier still same
