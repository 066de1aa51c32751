-- A bucket's state stored in its record, and a word stored in the header: what changes, and that all else stays.
-- Rests on changes inside one region.
use Prim.Native.Nat.{ℕ, ◌+◌, ◌^◌, ◌≤◌, ◌<◌}
use native.Mathlib.Omega.{arith}
use native.Mathlib.Nat.{zero-add}
use mathlib.Core.Path.{◌≡◌, refl, sym, ◌∙◌}
use mathlib.Core.Logic.{◌≢◌, ◌⊎◌, inl, inr, ⊎_elim}
use mathlib.Core.List.{List}
use lib.Dec.{ltb}
use lib.ListN.{length, set}
use lib.Seq.{get_or-set_same, get_or-set_other}
use Rattle.interface.specs.declared.Settings.{Settings}
use Rattle.machine.specs.Records.{State}
use Rattle.fields.specs.Fields.{header_depth, header_spare, header_size, record_toggle, record_depth, record_prefix, record_accounts}
use Rattle.fields.specs.Regions.{pool_size, words_needed, record', start_of, header, entry}
use Rattle.machine.proofs.laws.Base.{if_elim, if_true, if_false}
use Rattle.fields.proofs.Regions.{region_inside}
use Rattle.layout.specs.Shape.{word}
use Rattle.splits.specs.Splits.{deepened_at}
use Rattle.simulation.specs.Meaning.{at}
use Rattle.simulation.proofs.frames.Frames.{inside_head, header_start, header_wide, entry_wide, record_wide, Inside, elsewhere_inside, set_inside}
use Rattle.simulation.proofs.frames.BucketWords.{Stored}
use Rattle.simulation.proofs.swap.Halves.{inside_frame, frame_refl, Frame, SameRecord, Deepened, Restated}

-- ---- a change inside one region

module _ (s : Settings) where
  module _ {l l' : List ℕ} (r : ℕ) (f : Inside s (record' r) l l') where
    pub head_same : (i : ℕ) → i < header_size → word l' i ≡ word l i
    head_same = inside_head f (λ e. let z : ◌≡◌ {A = ℕ} 0 1 = cc in omega arith)

    pub record_frame : Frame s l l'
    record_frame = inside_frame s (record' r) (λ x. x) f (λ i h d e. head_same i h)

    pub record_entries : (e : ℕ) → e < 2 ^ s.depth → at s l' (entry e) 0 ≡ at s l (entry e) 0
    record_entries e h = f.same (entry e) 0 h (rw entry_wide (omega arith)) (λ q. let z : ◌≡◌ {A = ℕ} 0 1 = cc in omega arith)

    pub record_others : (t : ℕ) → t < pool_size s → t ≢ r → SameRecord s l l' t
    record_others t h d k b = f.same (record' t) k h b (λ e. d (cc))

  -- ---- a state stored in record r

  module _ (l l' : List ℕ) (r : ℕ) (w : r < pool_size s) (z : State) (stored : Stored s l l' r z) where
    pub stored_inside : Inside s (record' r) l l'
    stored_inside =
        let wide = record_wide s r in
        elsewhere_inside s (record' r) l l' w stored.same_length
        (λ i h. stored.elsewhere i (⊎_elim (λ a. inl a) (λ a. inr (inr (omega arith))) h))

    -- toggle, depth, prefix and number
    pub stored_beside : (i : ℕ) → record_toggle ≤ i → i < record_accounts → at s l' (record' r) i ≡ at s l (record' r) i
    stored_beside i h k = stored.elsewhere (start_of s (record' r) + i) (inr (inl (omega arith, omega arith)))

    pub restated : Restated s l l' r
    restated = record {
      frame = record_frame r stored_inside;
      depth = head_same r stored_inside header_depth (omega arith);
      entries = record_entries r stored_inside;
      others = record_others r stored_inside;
      name =
          λ o. record {
            depth = stored_beside record_depth (omega arith) (omega arith) o;
            prefix =
                stored_beside record_prefix (omega arith) (omega arith) o;
          };
    }

module _ (s : Settings) (l : List ℕ) (enough : words_needed s ≤ length l) where
  -- ---- a word of the header

  module _ (i v : ℕ) (low : i < header_size) where
    pub set_head : Inside s header l (set l i v)
    set_head = rw (header_start, zero-add) at (set_inside s l enough header tt i v (rw header_wide low))

    pub head_others : (t : ℕ) → t < pool_size s → SameRecord s l (set l i v) t
    head_others t h k b = set_head.same (record' t) k h b (λ e. let z : ◌≡◌ {A = ℕ} 0 1 = cc in omega arith)

    pub head_entries : (e : ℕ) → e < 2 ^ s.depth → at s (set l i v) (entry e) 0 ≡ at s l (entry e) 0
    head_entries e h = set_head.same (entry e) 0 h (rw entry_wide (omega arith)) (λ q. let z : ◌≡◌ {A = ℕ} 0 1 = cc in omega arith)

    pub head_frame : (i ≡ header_depth) ⊎ (i ≡ header_spare) → Frame s l (set l i v)
    head_frame either = inside_frame s header (λ x. x) set_head
        (λ k h d e. get_or-set_other l i k v 0 (λ q. ⊎_elim (λ (z : i ≡ header_depth). d (q ∙ z)) (λ (z : i ≡ header_spare). e (q ∙ z)) either))

  header_length : header_size ≤ length l
  header_length = omega (arith, region_inside s header tt, header_start s, header_wide s)

  -- the directory's depth
  pub deepened-at : (d : ℕ) → Deepened s l (deepened_at l d) d
  unfolding deepened_at
  deepened-at d =
      if_elim (λ (w : List ℕ). Deepened s l w d) (ltb (word l header_depth) d) (set l header_depth d) l
      (λ e. record {
        frame = head_frame header_depth d (omega arith) (inl refl);
        depth = get_or-set_same l header_depth d 0 (omega (arith, header_length)) ∙ sym (if_true _ _ e);
        entries = head_entries header_depth d (omega arith);
        records = head_others header_depth d (omega arith);
      })
      (λ e. record { frame = frame_refl s l; depth = sym (if_false _ _ e); entries = λ k h. refl; records = λ t h i k. refl })
