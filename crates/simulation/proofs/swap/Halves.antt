-- What the stores of a directory swap do to the words, as statements: the directory deepened, a bucket's state changed, a half made.
-- Rests on words that are the same.
use Prim.Native.Nat.{ℕ, ◌-◌, ◌/◌, ◌^◌, ◌<◌}
use native.Mathlib.Omega.{arith}
use mathlib.Core.Path.{◌≡◌, refl, ◌∙◌, subst}
use mathlib.Core.Logic.{◌≢◌}
use mathlib.Core.List.{List}
use lib.Dec.{ltb, eqb}
use lib.ListN.{length}
use Rattle.interface.specs.declared.Settings.{Settings}
use Rattle.machine.specs.Choice.{when◌then◌else◌}
use Rattle.machine.specs.Records.{Name, Body, new_bucket}
use Rattle.machine.specs.DirectoryPass.{half}
use Rattle.fields.specs.Fields.{header_depth, header_spare, header_size, worker_held, record_depth, record_prefix}
use Rattle.fields.specs.Regions.{pool_size, Region, record', start_of, region_size, Within, slot, worker, entry, header}
use Rattle.layout.specs.Shape.{word}
use Rattle.spares.specs.Records.{first_entry}
use Rattle.simulation.specs.Meaning.{at, name_in, Keeps}
use Rattle.simulation.proofs.frames.Frames.{worker_wide, SameWords, Inside}

-- a directory swap leaves slots and workers' records
abbrev pub Left : Region → Type 0
Left header = ⊥
Left (slot j) = Unit {0}
Left (worker j) = Unit {0}
Left (entry e) = ⊥
Left (record' r) = ⊥

module _ (s : Settings) where
  abbrev pub SameRecord : List ℕ → List ℕ → ℕ → Type 0
  SameRecord l l' r = SameWords s l l' (record' r)

  -- what is left of l in l': all but the directory, the pool, and the header's depth and next spare record
  pub record Frame (l l' : List ℕ) : Type 0 where
    pub same_length : length l' ≡ length l
    pub left : (q : Region) (i : ℕ) → Within s q → Left q → i < region_size s q → at s l' q i ≡ at s l q i
    pub header : (i : ℕ) → i < header_size → i ≢ header_depth → i ≢ header_spare → word l' i ≡ word l i

  -- the directory does not name the record at the first entry of the bucket that it says
  abbrev pub Spare : List ℕ → ℕ → Type 0
  Spare l r = at s l (entry (first_entry s (at s l (record' r) record_depth) (at s l (record' r) record_prefix))) 0 ≢ start_of s (record' r)

  -- l' is l with the directory's depth at least d
  pub record Deepened (l l' : List ℕ) (d : ℕ) : Type 0 where
    pub frame : Frame l l'
    pub depth : word l' header_depth ≡ when ltb (word l header_depth) d then d else word l header_depth
    pub entries : (e : ℕ) → e < 2 ^ s.depth → at s l' (entry e) 0 ≡ at s l (entry e) 0
    pub records : (t : ℕ) → t < pool_size s → SameRecord l l' t

  -- l' is l with another state in record r
  pub record Restated (l l' : List ℕ) (r : ℕ) : Type 0 where
    pub frame : Frame l l'
    pub depth : word l' header_depth ≡ word l header_depth
    pub entries : (e : ℕ) → e < 2 ^ s.depth → at s l' (entry e) 0 ≡ at s l (entry e) 0
    pub others : (t : ℕ) → t < pool_size s → t ≢ r → SameRecord l l' t
    pub name : name_in s l' r ≡ name_in s l r

  -- l' is l with bucket x, whose body is that half of b, in the spare record r
  pub record Halved (l l' : List ℕ) (x : Name) (b : Body) (r : ℕ) : Type 0 where
    pub frame : Frame l l'
    pub depth : word l' header_depth ≡ word l header_depth
    pub in_pool : r < pool_size s
    pub unheld : (j : ℕ) → j < s.workers → at s l (worker j) worker_held ≢ start_of s (record' r)
    pub spare : Spare l r
    pub entries :
        (e : ℕ) → e < 2 ^ s.depth
        → at s l' (entry e) 0 ≡ when eqb (e / 2 ^ (s.depth - x.depth)) x.prefix then start_of s (record' r) else at s l (entry e) 0
    pub others : (t : ℕ) → t < pool_size s → t ≢ r → SameRecord l l' t
    pub name : name_in s l' r ≡ x
    pub keeps : Keeps s l' r (new_bucket (half x b))

  -- the record that a worker refers to is a word that is left
  pub frame_refers : {l l' : List ℕ} → Frame l l' → (j : ℕ) → j < s.workers → at s l' (worker j) worker_held ≡ at s l (worker j) worker_held
  frame_refers f j h = f.left (worker j) worker_held h tt (rw worker_wide (omega arith))

  -- a change inside a region that is not left
  pub inside_frame :
      {l l' : List ℕ} (q : Region) → (Left q → ⊥) → Inside s q l l'
      → ((i : ℕ) → i < header_size → i ≢ header_depth → i ≢ header_spare → word l' i ≡ word l i) → Frame l l'
  inside_frame q n f h = record { same_length = f.same_length; left = λ v i w k b. f.same v i w b (λ e. n (subst Left e k)); header = h }

  pub frame_refl : (l : List ℕ) → Frame l l
  frame_refl l = record { same_length = refl; left = λ q i w f h. refl; header = λ i h d e. refl }

  pub frame_trans : {l l' l'' : List ℕ} → Frame l l' → Frame l' l'' → Frame l l''
  frame_trans p q = record {
    same_length = q.same_length ∙ p.same_length;
    left = λ r i w f h. q.left r i w f h ∙ p.left r i w f h;
    header = λ i h d e. q.header i h d e ∙ p.header i h d e;
  }

  pub same_trans : (l l' l'' : List ℕ) (r : ℕ) → SameRecord l l' r → SameRecord l' l'' r → SameRecord l l'' r
  same_trans l l' l'' r p q i h = q i h ∙ p i h
