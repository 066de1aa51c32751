-- Laws of one shared cell assigned: what that cell holds and what the others hold, and that writing back what is there changes nothing.
-- Rests on the laws of tests and arrays.
use Prim.Native.Nat.{ℕ}
use mathlib.Core.Path.{◌≡◌, refl, ap, sym, fun_ext}
use mathlib.Core.Logic.{◌≢◌}
use mathlib.Core.Bool.{true, false}
use lib.Dec.{eqb}
use borrow.Author.Tests.{eq-eqb, eqb-true}
use Rattle.machine.specs.Choice.{when◌then◌else◌}
use Rattle.machine.specs.Records.{Name, same, Bucket, Cells}
use Rattle.machine.specs.Steps.{unchanged, direct, assign_slot, assign_bucket, assign_state, assign_toggle}
use Rattle.machine.proofs.laws.Base.{no_both, if_elim, and_true, and_parts, assign_elim}

-- ---- names

pub name_path : {x y : Name} → x.depth ≡ y.depth → x.prefix ≡ y.prefix → x ≡ y
name_path e f = λ i. record { depth = e i; prefix = f i }

pub same_true : (x y : Name) → same x y ≡ true → x ≡ y
unfolding same
same_true x y e =
    let h = and_parts (eqb x.depth y.depth) (eqb x.prefix y.prefix) e in
    name_path (eqb-true x.depth y.depth h.0) (eqb-true x.prefix y.prefix h.1)

pub eq_same : (x y : Name) → x ≡ y → same x y ≡ true
unfolding same
eq_same x y e = and_true (eq-eqb x.depth y.depth (ap (λ z. z.depth) e)) (eq-eqb x.prefix y.prefix (ap (λ z. z.prefix) e))

pub same_false : (x y : Name) → same x y ≡ false → x ≢ y
same_false x y e f = no_both (eq_same x y f) e

-- the test of an equation between names
pub same_elim : {A : Type 0} (P : A → Type 0) (x y : Name) (v u : A) → (x ≡ y → P v) → (x ≢ y → P u) → P (when same x y then v else u)
same_elim P x y v u h k = if_elim P (same x y) v u (λ e. h (same_true x y e)) (λ e. k (same_false x y e))

-- ---- buckets

-- what holds of the new bucket at x, and of the old ones elsewhere, holds of each
pub bucket_elim :
    (P : Bucket → Type 0) (c : Cells) (x : Name) (v : Bucket) (y : Name) → (y ≡ x → P v) → (y ≢ x → P (c.buckets y))
    → P ((assign_bucket c x v).buckets y)
unfolding assign_bucket
bucket_elim P c x v y h k = same_elim P y x v (c.buckets y) h k

-- ---- writing back

bucket_same : (c : Cells) (x : Name) → assign_bucket c x (c.buckets x) ≡ c
unfolding assign_bucket
bucket_same c x = ap (λ f. record { directory = c.directory; slots = c.slots; buckets = f })
    (fun_ext (λ y. same_elim (λ b. b ≡ c.buckets y) y x (c.buckets x) (c.buckets y) (λ e. ap c.buckets (sym e)) (λ e. refl)))

pub assign_state_same : (c : Cells) (x : Name) → assign_state c x (c.buckets x).state ≡ c
unfolding assign_state
assign_state_same c x = bucket_same c x

pub assign_toggle_same : (c : Cells) (x : Name) → assign_toggle c x (c.buckets x).toggle ≡ c
unfolding assign_toggle
assign_toggle_same c x = bucket_same c x

pub assign_slot_same : (c : Cells) (j : ℕ) → assign_slot c j (c.slots j) ≡ c
unfolding assign_slot
assign_slot_same c j = ap (λ f. record { directory = c.directory; slots = f; buckets = c.buckets })
    (fun_ext (λ i. assign_elim (λ x. x ≡ c.slots i) c.slots j (c.slots j) i (λ e. ap c.slots (sym e)) (λ e. refl)))

pub direct_same : (c : Cells) → direct c (unchanged c.directory) ≡ c
unfolding direct
direct_same c = refl
