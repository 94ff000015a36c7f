-- Reading values one after another, as a loop does.
use Rattle.std.proofs.Common.{◌≡◌, ℕ, suc, ◌-◌, ◌+◌, ◌≤◌, ◌<◌, List, [], ◌∷◌, ◌++◌, Option, None, Some, refl, sym, ap, ◌∙◌, append_assoc, arith}
use Rattle.std.proofs.lemmas.List.{append-nil}
use Rattle.sv_saved_sessions.specs.declared.reading_fault.ReadingFault.{ReadingFault}
use Rattle.sv_saved_sessions.specs.declared.reading_fault.ReadingFault.TheVariants as faults
use Rattle.sv_saved_sessions.specs.Reading.{◌>>=◌, Fails, Reader, items_at}
use Rattle.sv_saved_sessions.proofs.Readers.{some_is}

module _ {A : Type 0} where
  -- The values that were read before, and those that are still read.
  abbrev pub with_front : List A → Option (List A × List ℕ) → Option (List A × List ℕ)
  with_front front read = read >>= λ x. Some (front ++ x.0, x.1)

  regroup : (front : List A) (item : A) (read : Option (List A × List ℕ)) → with_front front (read >>= λ x. Some (item ∷ x.0, x.1)) ≡ with_front (front ++ item ∷ []) read
  regroup front item (Some x) = ap (λ (items : List A). Some (items, x.1)) (simp append_assoc)
  regroup front item None = refl

  pub goes_on : (reader : Reader A) (front : List A) (count i : ℕ) (bytes : List ℕ) (item : A) (after : List ℕ) (total : Option (List A × List ℕ))
      → i < count → reader bytes ≡ Some (item, after) → with_front front (items_at reader (count - i) bytes) ≡ total
      → with_front (front ++ item ∷ []) (items_at reader (count - (i + 1)) after) ≡ total
  unfolding items_at
  goes_on reader front count i bytes item after total lt read so_far =
      let k : count - i ≡ suc (count - (i + 1)) = omega arith in
      let one : with_front front (items_at reader (count - i) bytes) ≡ with_front (front ++ item ∷ []) (items_at reader (count - (i + 1)) after) =
      rw (k, read) (regroup front item (items_at reader (count - (i + 1)) after)) in
      sym one ∙ so_far

  pub ends : (fault : ReadingFault) (reader : Reader A) (front : List A) (count i : ℕ) (bytes : List ℕ) (total : Option (List A × List ℕ))
      → i < count → Fails fault (reader bytes) → with_front front (items_at reader (count - i) bytes) ≡ total → Fails fault total
  unfolding items_at
  ends faults.NoMemory reader front count i bytes total lt read so_far = tt
  ends faults.Foreign reader front count i bytes total lt read so_far = read
  ends faults.Damaged reader front count i bytes total lt read so_far =
      let k : count - i ≡ suc (count - (i + 1)) = omega arith in
      let one : with_front front (items_at reader (count - i) bytes) ≡ None = rw (k, read) refl in
      sym so_far ∙ one

  pub is_done : (reader : Reader A) (front : List A) (count i : ℕ) (bytes : List ℕ) (total : Option (List A × List ℕ))
      → count ≤ i → with_front front (items_at reader (count - i) bytes) ≡ total → total ≡ Some (front, bytes)
  unfolding items_at
  is_done reader front count i bytes total le so_far =
      let k : count - i ≡ 0 = omega arith in
      let one : with_front front (items_at reader (count - i) bytes) ≡ Some (front, bytes) = rw k (ap (λ (items : List A). Some (items, bytes)) (append-nil front)) in
      sym so_far ∙ one

  nothing_before : (read : Option (List A × List ℕ)) → with_front [] read ≡ read
  nothing_before (Some x) = refl
  nothing_before None = refl

  pub begins : (reader : Reader A) (count : ℕ) (bytes : List ℕ) → with_front [] (items_at reader (count - 0) bytes) ≡ items_at reader count bytes
  begins reader count bytes =
      let same : count - 0 ≡ count = omega arith in
      nothing_before (items_at reader (count - 0) bytes) ∙ ap (λ (n : ℕ). items_at reader n bytes) same

  other_items : (front : List A) (item : A) (read : Option (List A × List ℕ)) (all : List A) (rest : List ℕ)
      → with_front front (read >>= λ x. Some (item ∷ x.0, x.1)) ≡ Some (all, rest) → (others : List A) × (all ≡ front ++ item ∷ others)
  other_items front item (Some x) all rest e = (x.0, ap (λ (y : List A × List ℕ). y.0) (sym (some_is (front ++ item ∷ x.0, x.1) (all, rest) e)))
  other_items front item None all rest e = absurd cc

  -- All items are those before, the next and others.
  pub next_of_all : (reader : Reader A) (front : List A) (count i : ℕ) (bytes : List ℕ) (item : A) (after : List ℕ) (total : Option (List A × List ℕ))
      → i < count → reader bytes ≡ Some (item, after) → with_front front (items_at reader (count - i) bytes) ≡ total
      → (all : List A) (rest : List ℕ) → total ≡ Some (all, rest) → (others : List A) × (all ≡ front ++ item ∷ others)
  unfolding items_at
  next_of_all reader front count i bytes item after total lt read so_far all rest e =
      let k : count - i ≡ suc (count - (i + 1)) = omega arith in
      let one : with_front front (items_at reader (count - i) bytes) ≡ with_front front (items_at reader (count - (i + 1)) after >>= λ x. Some (item ∷ x.0, x.1)) =
      rw (k, read) refl in
      other_items front item (items_at reader (count - (i + 1)) after) all rest (sym one ∙ so_far ∙ e)
