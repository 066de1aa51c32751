-- The directory's entries of one bucket directed to a record: those entries, and no other word. Rests on the laws of overlays.
use Prim.Native.Nat.{ℕ, ◌+◌, ◌-◌, ◌*◌, ◌/◌, ◌%◌, ◌^◌, ◌≤◌, ◌<◌}
use native.Mathlib.Omega.{arith}
use native.Mathlib.Nat.{mod-lt, mod-eq_of_lt, div-add-mod', suc-mul, mul-le-mul_right}
use native.Mathlib.Decide.{dec_lt}
use mathlib.Core.Path.{◌≡◌, refl, ap, sym, ◌∙◌}
use mathlib.Core.Logic.{◌≢◌, ⊎_elim, by_cases}
use mathlib.Core.List.{List}
use lib.Dec.{eqb}
use lib.ListN.{length, get_or, replicate, length-replicate, get_or-replicate}
use lib.Pow.{pow_pos, pow-add, high}
use Rattle.interface.specs.declared.Settings.{Settings}
use Rattle.machine.specs.Choice.{when◌then◌else◌}
use Rattle.fields.specs.Regions.{directory_start, words_needed, Region, start_of, region_size, Within, entry}
use Rattle.machine.proofs.laws.Base.{eq_elim}
use Rattle.lists.specs.Parts.{overlay}
use Rattle.fields.proofs.Regions.{region_inside, regions_apart}
use Rattle.lists.proofs.PartLaws.{length_overlay, get_d_overlay_in, get_d_overlay_before, get_d_overlay_after}
use Rattle.spares.specs.Records.{first_entry}
use Rattle.simulation.specs.Meaning.{at}
use Rattle.simulation.proofs.frames.Frames.{entry_wide}

entry_at : (s : Settings) (e : ℕ) → start_of s (entry e) ≡ directory_start s.workers + e
unfolding start_of
entry_at s e = refl

module _ (s : Settings) (l : List ℕ) (enough : words_needed s ≤ length l) (d q r : ℕ) (low : d ≤ s.depth) (short : q < 2 ^ d) where
  -- how many entries the bucket has
  abbrev k : ℕ
  k = 2 ^ (s.depth - d)

  abbrev directed : List ℕ
  directed = overlay l (start_of s (entry (first_entry s d q))) (replicate (2 ^ (s.depth - d)) r)

  last : q * k + k ≤ 2 ^ s.depth
  last =
      let e : d + (s.depth - d) ≡ s.depth = omega arith in
      let p : 2 ^ s.depth ≡ 2 ^ d * k = ap (λ (i : ℕ). 2 ^ i) (sym e) ∙ pow-add 2 d (s.depth - d) in
      rw p (rw (← suc-mul) (mul-le-mul_right k short))

  first : first_entry s d q ≡ q * k
  unfolding first_entry
  first = let h = last in let p = pow_pos (s.depth - d) in mod-eq_of_lt (omega arith)

  long : length (replicate k r) ≡ k
  long = length-replicate k r

  fits : start_of s (entry (first_entry s d q)) + length (replicate k r) ≤ length l
  fits =
      let h = last in
      let p = pow_pos (s.depth - d) in
      rw (long, entry_at, first) (omega (arith, region_inside s (entry (q * k + k - 1)) (omega arith), entry_at s (q * k + k - 1)))

  pub directed_length : length directed ≡ length l
  directed_length = length_overlay l _ (replicate k r) fits

  pub directed_entries : (e : ℕ) → e < 2 ^ s.depth → at s directed (entry e) 0 ≡ when eqb (e / k) q then r else at s l (entry e) 0
  directed_entries e h =
      eq_elim (λ (v : ℕ). at s directed (entry e) 0 ≡ v) (e / k) q r (at s l (entry e) 0)
      here (λ z. by_cases (dec_lt e (q * k)) before
      (λ b. by_cases (dec_lt e (q * k + k)) (λ c. absurd (z (within_it (omega arith) c))) (λ c. after (omega arith))))
    where
      entry_here : start_of s (entry e) + 0 ≡ directory_start s.workers + e
      entry_here = rw entry_at (omega arith)

      start : start_of s (entry (first_entry s d q)) ≡ directory_start s.workers + q * k
      start = rw (entry_at, first)

      within_it : q * k ≤ e → e < q * k + k → e / k ≡ q
      within_it a b = let z : e ≡ q * k + (e - q * k) = omega arith in ap (λ (i : ℕ). i / k) z ∙ high q (s.depth - d) (omega arith)

      here : e / k ≡ q → at s directed (entry e) 0 ≡ r
      here z =
          let m = mod-lt e (pow_pos (s.depth - d)) in
          let w : q * k + e % k ≡ e = rw (← z) (div-add-mod' e k) in
          let p = entry_here in
          let o = start in
          let v : start_of s (entry e) + 0 ≡ start_of s (entry (first_entry s d q)) + e % k = omega arith in
          ap (λ (i : ℕ). get_or directed i 0) v ∙ get_d_overlay_in l _ (replicate k r) fits (e % k) (rw long m)
          ∙ get_or-replicate k (e % k) r 0 m

      before : e < q * k → at s directed (entry e) 0 ≡ at s l (entry e) 0
      before b = let p = entry_here in let o = start in get_d_overlay_before l _ (replicate k r) fits (start_of s (entry e) + 0) (omega arith)

      after : q * k + k ≤ e → at s directed (entry e) 0 ≡ at s l (entry e) 0
      after b =
          let p = entry_here in
          let o = start in
          let g = long in
          get_d_overlay_after l _ (replicate k r) fits (start_of s (entry e) + 0) (omega arith)

  -- a region that is no entry
  pub directed_other : (v : Region) (i : ℕ) → Within s v → i < region_size s v → ((e : ℕ) → v ≢ entry e) → at s directed v i ≡ at s l v i
  directed_other v i w h n =
      let o : start_of s (entry (first_entry s d q)) ≡ directory_start s.workers + q * k = rw (entry_at, first) in
      let g = long in
      by_cases (dec_lt (start_of s v + i) (directory_start s.workers + q * k))
      (λ b. get_d_overlay_before l _ (replicate k r) fits (start_of s v + i) (omega arith))
      (λ b. by_cases (dec_lt (start_of s v + i) (directory_start s.workers + q * k + k)) (λ c. absurd (between (omega arith) c))
      (λ c. get_d_overlay_after l _ (replicate k r) fits (start_of s v + i) (omega arith)))
    where
      between : directory_start s.workers + q * k ≤ start_of s v + i → start_of s v + i < directory_start s.workers + q * k + k → ⊥
      between a b =
          let m = last in
          let e : ℕ = start_of s v + i - directory_start s.workers in
          let p = entry_at s e in
          let z = entry_wide s e in
          ⊎_elim (λ (c : start_of s v + region_size s v ≤ start_of s (entry e)). omega arith)
          (λ (c : start_of s (entry e) + region_size s (entry e) ≤ start_of s v). omega arith)
          (regions_apart s v (entry e) w (omega arith) (n e))
