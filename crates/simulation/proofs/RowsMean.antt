-- The listing on words that mean a machine is the machine's: each entry's rows are the accounts of the plain table with its first bits, and
-- all entries together, sorted, are the whole. Rests on what a bucket record's words mean, and on the laws of tables and of sorting.
use Prim.Native.Nat.{ℕ, zero, suc, ◌+◌, ◌-◌, ◌^◌, ◌≤◌, ◌<◌}
use native.Mathlib.Omega.{arith}
use native.Mathlib.Nat.{add-zero, zero-add, mod-eq_of_lt}
use native.Mathlib.Decide.{ℕ_discrete, dec_lt}
use mathlib.Core.Path.{◌≡◌, refl, ap, sym, ◌∙◌, subst, subst⁻¹}
use mathlib.Core.Bool.{true}
use mathlib.Core.List.{List, [], ◌∷◌}
use lib.Dec.{leb}
use lib.IntN.{ℤ}
use lib.ListN.{length, get_or, take}
use lib.Seq.{length-take-le, get_or-take}
use borrow.Author.Tests.{le-leb, lt-leb, eq-eqb, ne_eqb}
use Rattle.interface.specs.Limits.{in_range, Range}
use Rattle.interface.proofs.Laws.{range_of}
use Rattle.interface.specs.declared.Settings.{Settings}
use Rattle.machine.specs.Choice.{when◌then◌else◌}
use Rattle.machine.specs.Sequential.{Table, first_bits, having, AccountsAbove, Ascending}
use Rattle.machine.specs.Records.{Name, Leaf, Machine}
use Rattle.machine.specs.DirectoryPass.{copy_of, name_of}
use Rattle.machine.specs.Calls.{contents}
use Rattle.machine.proofs.laws.Base.{if_elim, if_false}
use Rattle.machine.proofs.laws.Bits.{bits_below, representative, bits_representative}
use Rattle.machine.proofs.laws.Tables.{above_having, having_having}
use Rattle.machine.proofs.laws.Copies.{Coherent, depth_at_le, leaf_of_copy_of, partition_name, partition_of}
use Rattle.machine.proofs.Listing.{contents_is}
use Rattle.machine.specs.Tasks.{leaf}
use Rattle.machine.proofs.invariant.Inv.{leaf_body}
use Rattle.machine.proofs.invariant.Tasks.{Good}
use Rattle.machine.proofs.moments.Explain.{Parts}
use Rattle.bucket.specs.declared.BucketState.{BucketState}
use Rattle.simulation.specs.Buckets.{signed, pairs, items_of, Below, Sound, Means}
use Rattle.bucket.proofs.Laws.{size_is}
use Rattle.fields.specs.Fields.{record_count, accounts_from, totals_from}
use Rattle.fields.specs.Regions.{directory_start, record', start_of}
use Rattle.memory.specs.Words.{least}
use Rattle.record.specs.Loads.{copied, loaded_state}
use Rattle.record.proofs.Runs.{get_d_copied}
use Rattle.layout.specs.Shape.{word}
use Rattle.layout.specs.Addresses.{record_in, record_of}
use Rattle.entries.specs.Entries.{entry_record, row_at, rows_in, rows_of}
use Rattle.sorting.specs.Sorting.{insert_row, sorted}
use Rattle.sorting.proofs.Order.{lower, higher}
use Rattle.sorting.proofs.Insertion.{insert_here, insert_past, insert_rows, sorted_append}
use Rattle.rows.specs.Rows.{rows_from, unsorted, rows}
use Rattle.simulation.specs.Meaning.{at, current, Meaning}
use Rattle.simulation.proofs.frames.Entering.{directed_record}

-- ---- a table by the first bits of its accounts

-- a row below all of a table stays the first
insert_first : (x : ℕ × ℤ) (t : Table) → AccountsAbove x.0 t → insert_row x t ≡ x ∷ t
unfolding insert_row
insert_first x [] h = refl
insert_first x (y ∷ t) h = insert_here x y t (lower x y h.0)

first_stays : (x : ℕ × ℤ) (p r : Table) → AccountsAbove x.0 p → insert_rows p (x ∷ r) ≡ x ∷ insert_rows p r
unfolding insert_rows
first_stays x [] r h = refl
first_stays x (y ∷ p) r h = ap (insert_row y) (first_stays x p r h.1) ∙ insert_past y x (insert_rows p r) (higher y x h.0)

-- the accounts whose first d bits are e or more
unfoldable from : ℕ → ℕ → Table → Table
from d e [] = []
from d e (x ∷ t) = when leb e (first_bits d x.0) then x ∷ from d e t else from d e t

module _ (d : ℕ) where
  above_from : (e x : ℕ) (t : Table) → AccountsAbove x t → AccountsAbove x (from d e t)
  unfolding from
  above_from e x [] h = tt
  above_from e x (y ∷ t) h =
      if_elim (AccountsAbove x) _ _ _ (λ q. (h.0, above_from e x t h.1)) (λ q. above_from e x t h.1)

  -- those with e put into those with more
  from_join : (e : ℕ) (t : Table) → Ascending t → insert_rows (having d e t) (from d (suc e) t) ≡ from d e t
  unfolding from having insert_rows when◌then◌else◌
  from_join e [] h = refl
  from_join e (x ∷ t) h = go (from_join e t h.1) (dec_lt b e) (ℕ_discrete b e)
    where
      b : ℕ
      b = first_bits d x.0

      go :
          insert_rows (having d e t) (from d (suc e) t) ≡ from d e t → Dec (b < e) → Dec (b ≡ e)
          → insert_rows (having d e (x ∷ t)) (from d (suc e) (x ∷ t)) ≡ from d e (x ∷ t)
      go again (yes less) q = rw (lt-leb e b less, ne_eqb b e (λ z. omega arith), lt-leb (suc e) b (omega arith)) again
      go again (no more) (yes same) =
          rw (le-leb e b (omega arith), eq-eqb b e same, lt-leb (suc e) b (omega arith))
          (ap (insert_row x) again ∙ insert_first x (from d e t) (above_from e x.0 t h.0))
      go again (no more) (no other) =
          rw (le-leb e b (omega arith), ne_eqb b e other, le-leb (suc e) b (omega arith))
          (first_stays x (having d e t) (from d (suc e) t) (above_having x.0 d e t h.0) ∙ ap (λ (y : Table). x ∷ y) again)

  from_zero : (t : Table) → from d 0 t ≡ t
  unfolding from when◌then◌else◌
  from_zero [] = refl
  from_zero (x ∷ t) = rw (le-leb 0 (first_bits d x.0) (omega arith)) (ap (λ (y : Table). x ∷ y) (from_zero t))

  from_end : d ≤ 32 → (t : Table) → from d (2 ^ d) t ≡ []
  unfolding from
  from_end small [] = refl
  from_end small (x ∷ t) = if_false _ _ (lt-leb (2 ^ d) (first_bits d x.0) (bits_below d x.0 small)) ∙ from_end small t

items_are : (x : BucketState) → Sound x → items_of x ≡ pairs (take x.count x.accounts) (take x.count x.totals)
unfolding items_of
items_are x h = ap (λ (c : ℕ). pairs (take c x.accounts) (take c x.totals)) (size_is x h.count)

-- ---- the rows of one entry

module _ (l : List ℕ) (s : Settings) (e q : ℕ) where
  -- the accounts and totals from position i on are those of two lists
  rows_pairs :
      (xs vs : List ℕ) (i : ℕ) → length vs ≡ length xs → Below (2 ^ 32) xs
      → ((k : ℕ) → k < length xs → word l (accounts_from q + (i + k)) ≡ get_or xs k 0)
      → ((k : ℕ) → k < length xs → word l (totals_from q s.capacity + (i + k)) ≡ get_or vs k 0)
      → rows_in l s e q i (length xs) ≡ having s.depth e (pairs xs vs)
  unfolding rows_in row_at pairs having signed
  rows_pairs [] vs i same narrow accounts totals = refl
  rows_pairs (a ∷ xs) [] i same narrow accounts totals = absurd (omega arith)
  rows_pairs (a ∷ xs) (v ∷ vs) i same narrow accounts totals =
      let account : word l (accounts_from q + i) ≡ a = rw add-zero at (accounts 0 (omega arith)) in
      let total : word l (totals_from q s.capacity + i) ≡ v = rw add-zero at (totals 0 (omega arith)) in
      let next : (k : ℕ) → i + suc k ≡ suc i + k = λ k. omega arith in
      let again = rows_pairs xs vs (suc i) (omega arith) narrow.1
      (λ k h. rw (← next k) (accounts (suc k) (omega arith))) (λ k h. rw (← next k) (totals (suc k) (omega arith))) in
      rw (again, account, total, mod-eq_of_lt narrow.0)

module _ (s : Settings) (range : in_range s.workers s.capacity s.depth ≡ true) (l : List ℕ) (m : Machine) (means : Meaning s l m)
    (good : Good s m) (t : Table) (parts : Parts m.cells t) where
  limits : Range s.workers s.capacity s.depth
  limits = range_of s.workers s.capacity s.depth range

  coherent : Coherent s.depth (copy_of m.cells.directory.value)
  coherent = good.directory

  shallow : (a : ℕ) → (leaf m.cells a).depth ≤ m.cells.directory.value.depth
  unfolding copy_of
  shallow a = subst (λ (x : Leaf). (name_of x).depth ≤ m.cells.directory.value.depth) (leaf_of_copy_of _ a) (depth_at_le coherent a)

  pub contents_are : contents m ≡ t
  unfolding copy_of
  contents_are = contents_is m t (omega (arith, coherent.bound, limits.greatest-depth)) (λ a. (shallow a, prefix a))
      (λ a. parts.part a ∙ ap (λ (q : ℕ). having (leaf m.cells a).depth q t) (sym (prefix a))) parts.ascending
    where
      prefix : (a : ℕ) → (leaf m.cells a).prefix ≡ first_bits (leaf m.cells a).depth a
      prefix a = ap (λ (x : Name). x.prefix) (partition_name (partition_of m.cells.directory.value coherent) a)

  -- account a's record
  record RecordOf (a : ℕ) : Type 0 where
    start : ℕ
    directed : record_of l s a ≡ start
    state : Means (loaded_state l start s.capacity s.workers) (m.cells.buckets (leaf m.cells a)).state.value s.workers

  recorded : (a : ℕ) → RecordOf a
  recorded a =
      let x = means.directory a in
      let k = means.cells x.0 (current a x.1) in
      record {
        start = start_of s (record' x.0);
        directed = directed_record s l means.lent a x.0 x.1;
        state = rw x.2 at k.state;
      }

  -- the rows that a record's words are
  record_rows :
      (e a : ℕ) (p : RecordOf a)
      → rows_in l s e p.start 0 (least (word l (p.start + record_count)) s.capacity)
      ≡ having s.depth e (leaf_body m.cells a).items
  unfolding loaded_state
  record_rows e a p = (rw long at is) ∙ ap (having s.depth e) (sym (items_are x sound) ∙ p.state.items)
    where
      x : BucketState
      x = loaded_state l p.start s.capacity s.workers

      sound : Sound x
      sound = p.state.sound

      accounts : List ℕ
      accounts = take x.count x.accounts

      totals : List ℕ
      totals = take x.count x.totals

      long : length accounts ≡ x.count
      long = length-take-le x.count x.accounts (rw sound.accounts sound.count)

      wide : length totals ≡ x.count
      wide = length-take-le x.count x.totals (rw sound.totals sound.count)

      -- item i of a run that was copied
      item : (from i : ℕ) → i < x.count → get_or (take x.count (copied l from x.count)) i 0 ≡ word l (from + i)
      item from i h = get_or-take x.count _ i 0 h ∙ get_d_copied l from x.count i sound.count h

      is : rows_in l s e p.start 0 (length accounts) ≡ having s.depth e (pairs accounts totals)
      is = rows_pairs l s e p.start accounts totals 0 (wide ∙ sym long) sound.narrow
          (λ i h. rw (zero-add i) (sym (item (accounts_from p.start) i (omega (arith, long)))))
          (λ i h. rw (zero-add i) (sym (item (totals_from p.start s.capacity) i (omega (arith, long)))))

  entry_rows : (e : ℕ) → e < 2 ^ s.depth → rows_of l s e ≡ having s.depth e t
  unfolding rows_of entry_record record_of
  entry_rows e h =
      let k = limits in
      let a : ℕ = representative s.depth e in
      let p = recorded a in
      let bits : first_bits s.depth a ≡ e = bits_representative s.depth e (omega arith) h in
      let start : entry_record l s e ≡ p.start =
      subst (λ (x : ℕ). record_in l (word l (directory_start s.workers + x)) ≡ p.start) bits p.directed in
      let part =
      having_having (leaf m.cells a).depth s.depth a t ((partition_of m.cells.directory.value coherent).bound a) (omega arith) in
      subst⁻¹ (λ (q : ℕ). rows_in l s e q 0 (least (word l (q + record_count)) s.capacity) ≡ having s.depth e t) start
      (record_rows e a p ∙ subst (λ (x : ℕ). having s.depth x (leaf_body m.cells a).items ≡ having s.depth x t) bits
      (ap (having s.depth (first_bits s.depth a)) (parts.part a) ∙ part))

  rows-from : (e k : ℕ) → e + k ≡ 2 ^ s.depth → sorted (rows_from l s e k) ≡ from s.depth e t
  unfolding rows_from sorted
  rows-from e zero h =
      let k : e ≡ 2 ^ s.depth = omega arith in
      sym (rw k (from_end s.depth (omega (arith, limits.greatest-depth)) t))
  rows-from e (suc k) h =
      sorted_append (rows_of l s e) (rows_from l s (suc e) k)
      ∙ rw (entry_rows e (omega arith), rows-from (suc e) k (omega arith)) (from_join s.depth e t parts.ascending)

  pub rows_table : rows l s ≡ t
  unfolding rows unsorted
  rows_table = rows-from 0 (2 ^ s.depth) (omega arith) ∙ from_zero s.depth t

  pub rows_are : rows l s ≡ contents m
  rows_are = rows_table ∙ sym contents_are
