-- How a machine continues after a text that it has taken.
use Rattle.std.proofs.Common.{◌≡◌, ℕ, ◌+◌, ◌-◌, ◌<◌, ◌≤◌, Bool, true, false, List, [], ◌++◌, length, take, drop, refl, sym, ap, ◌∙◌, subst, cond, ltb, min, arith, length-append}
use Rattle.std.specs.Str.{bytes_eq}
use Rattle.std.proofs.lemmas.Bool.{cond-true, cond-false, lt-ltb, le-ltb, ltb-true, ltb-false}
use Rattle.std.proofs.lemmas.List.{append_assoc, append-nil, take-append-le, length-take, take-append-drop, take_all, drop_all}
use Rattle.httparse.specs.Ascii.{crlf_bytes}
use Rattle.sv_wire.specs.declared.body_fault.BodyFault.TheVariants.{BadChunk}
use Rattle.sv_wire.specs.Body.{read_length}
use Rattle.sv_wire.specs.Chunks.{Body, unfinished, complete, broken, Part, chunk, last, read_data}
use Rattle.sv_wire.specs.Machine.{ReadsRest, GoesOn, Resumes, FitsStage}
use Rattle.sv_wire.specs.declared.limits.TheConstants.{MAX_BODY_LEN}
use Rattle.sv_wire.specs.declared.machine.Stage.TheVariants.{Plain, SizeLine, Data, DataEnd}
use Rattle.sv_wire.proofs.ListLemmas.{take_behind, drop_behind}

-- ---- a body whose length is known

pub read_length_short : (bytes : List ℕ) (count : ℕ) (text : List ℕ) → length text < count → read_length bytes count text ≡ unfinished
read_length_short bytes count text short = cond-true (ltb (length text) count) unfinished _ (lt-ltb _ _ short)

pub read_length_long : (bytes : List ℕ) (count : ℕ) (text : List ℕ) → count ≤ length text
    → read_length bytes count text ≡ complete (bytes ++ take count text) (drop count text)
read_length_long bytes count text long = cond-false (ltb (length text) count) unfinished _ (le-ltb _ _ long)

-- The front of the body is already read.
pub read_length_on : (bytes front rest : List ℕ) (count left : ℕ) → count ≡ length front + left
    → read_length (bytes ++ front) left rest ≡ read_length bytes count (front ++ rest)
read_length_on bytes front rest count left is = by_test (ltb (length rest) left) refl
  where
    by_test : (t : Bool) → ltb (length rest) left ≡ t → read_length (bytes ++ front) left rest ≡ read_length bytes count (front ++ rest)
    by_test true short =
        let below = ltb-true (length rest) left short in
        read_length_short (bytes ++ front) left rest below
        ∙ sym (read_length_short bytes count (front ++ rest) (omega (arith, below, length-append front rest)))
    by_test false long =
        let above = ltb-false (length rest) left long in
        read_length_long (bytes ++ front) left rest above
        ∙ (λ i. complete (append_assoc bytes front (take left rest) i) (drop left rest))
        ∙ (λ i. complete (bytes ++ sym (take_behind front rest count left is) i) (sym (drop_behind front rest count left is) i))
        ∙ sym (read_length_long bytes count (front ++ rest) (omega (arith, above, length-append front rest)))

-- ---- the bytes of a chunk

-- A part with these bytes put before its own.
abbrev behind : List ℕ → Part → Part
behind front (chunk bytes rest) = chunk (front ++ bytes) rest
behind front (last body) = last body

pub read_data_short : (count : ℕ) (text : List ℕ) → length text < count + 2 → read_data count text ≡ last unfinished
read_data_short count text short = cond-true (ltb (length text) (count + 2)) (last unfinished) _ (lt-ltb _ _ short)

-- The part, if the chunk's bytes and the two after them are present.
abbrev pub data_end : ℕ → List ℕ → Part
data_end count text =
    cond (bytes_eq (take 2 (drop count text)) crlf_bytes) (chunk (take count text) (drop (count + 2) text)) (last (broken BadChunk (drop (count + 2) text)))

pub read_data_long : (count : ℕ) (text : List ℕ) → count + 2 ≤ length text → read_data count text ≡ data_end count text
read_data_long count text long = cond-false (ltb (length text) (count + 2)) (last unfinished) _ (le-ltb _ _ long)

-- The front of a chunk's bytes is already read.
pub read_data_on : (front rest : List ℕ) (count left : ℕ) → count ≡ length front + left
    → read_data count (front ++ rest) ≡ behind front (read_data left rest)
read_data_on front rest count left is = by_test (ltb (length rest) (left + 2)) refl
  where
    by_end : (t : Bool)
        → cond t (chunk (take count (front ++ rest)) (drop (count + 2) (front ++ rest))) (last (broken BadChunk (drop (count + 2) (front ++ rest))))
        ≡ behind front (cond t (chunk (take left rest) (drop (left + 2) rest)) (last (broken BadChunk (drop (left + 2) rest))))
    by_end true = λ i. chunk (take_behind front rest count left is i) (drop_behind front rest (count + 2) (left + 2) (omega arith) i)
    by_end false = λ i. last (broken BadChunk (drop_behind front rest (count + 2) (left + 2) (omega arith) i))

    same_end : data_end count (front ++ rest)
        ≡ cond (bytes_eq (take 2 (drop left rest)) crlf_bytes) (chunk (take count (front ++ rest)) (drop (count + 2) (front ++ rest))) (last (broken BadChunk (drop (count + 2) (front ++ rest))))
    same_end = ap (λ text. cond (bytes_eq (take 2 text) crlf_bytes) (chunk (take count (front ++ rest)) (drop (count + 2) (front ++ rest))) (last (broken BadChunk (drop (count + 2) (front ++ rest))))) (drop_behind front rest count left is)

    by_test : (t : Bool) → ltb (length rest) (left + 2) ≡ t → read_data count (front ++ rest) ≡ behind front (read_data left rest)
    by_test true short =
        let below = ltb-true (length rest) (left + 2) short in
        read_data_short count (front ++ rest) (omega (arith, below, length-append front rest))
        ∙ ap (behind front) (sym (read_data_short left rest below))
    by_test false long =
        let above = ltb-false (length rest) (left + 2) long in
        read_data_long count (front ++ rest) (omega (arith, above, length-append front rest))
        ∙ same_end ∙ by_end (bytes_eq (take 2 (drop left rest)) crlf_bytes)
        ∙ ap (behind front) (sym (read_data_long left rest above))

pub GoesOn_behind : (bytes front : List ℕ) (part : Part) (body : Body) → GoesOn (bytes ++ front) part body → GoesOn bytes (behind front part) body
GoesOn_behind bytes front (chunk more rest) body reads =
    subst (λ all. ReadsRest all rest body) (append_assoc bytes front more) reads
GoesOn_behind bytes front (last end) body reads = reads

-- The reading that continues after the front of a chunk's bytes.
pub data_on : (bytes front rest : List ℕ) (count left : ℕ) (body : Body) → count ≡ length front + left
    → GoesOn (bytes ++ front) (read_data left rest) body → GoesOn bytes (read_data count (front ++ rest)) body
data_on bytes front rest count left body is reads =
    subst (λ part. GoesOn bytes part body) (sym (read_data_on front rest count left is)) (GoesOn_behind bytes front (read_data left rest) body reads)

-- ---- steps

module _ (bytes text : List ℕ) (count here : ℕ) (taken : here ≡ min count (length text)) where
  pub plain_awaits : here < count
      → FitsStage (Plain (count - here)) [] (bytes ++ take here text)
      × Resumes (Plain (count - here)) (bytes ++ take here text) ([] ++ []) unfinished
      × ((more : List ℕ) (body : Body) → Resumes (Plain (count - here)) (bytes ++ take here text) ([] ++ more) body
      → Resumes (Plain count) bytes ([] ++ (text ++ more)) body)
  plain_awaits short =
      let all : take here text ≡ text = take_all here text (omega (arith, taken, short)) in
      rw all (
        refl,
        sym (read_length_short (bytes ++ text) (count - here) [] (omega (arith, short))),
        λ more body reads. reads ∙ read_length_on bytes text more count (count - here) (omega (arith, taken, short)),
      )

  data_front : (more : List ℕ) (body : Body)
      → GoesOn (bytes ++ take here text) (read_data (count - here) (drop here text ++ more)) body
      → GoesOn bytes (read_data count (text ++ more)) body
  data_front more body reads =
      let parts : text ++ more ≡ take here text ++ (drop here text ++ more) =
      ap (λ t. t ++ more) (sym (take-append-drop here text)) ∙ append_assoc (take here text) (drop here text) more in
      subst (λ t. GoesOn bytes (read_data count t) body) (sym parts)
      (data_on bytes (take here text) (drop here text ++ more) count (count - here) body (omega (arith, taken, length-take here text)) reads)

  pub data_awaits : here < count → 0 < count → length bytes + count ≤ MAX_BODY_LEN
      → FitsStage (Data (count - here)) [] (bytes ++ take here text)
      × Resumes (Data (count - here)) (bytes ++ take here text) ([] ++ []) unfinished
      × ((more : List ℕ) (body : Body) → Resumes (Data (count - here)) (bytes ++ take here text) ([] ++ more) body
      → Resumes (Data count) bytes ([] ++ (text ++ more)) body)
  data_awaits short counts fits =
      let all : take here text ≡ text = take_all here text (omega (arith, taken, short)) in
      rw all (
        (refl, omega (arith, short), omega (arith, fits, taken, short, length-append bytes text)),
        subst (λ part. GoesOn (bytes ++ text) part unfinished) (sym (read_data_short (count - here) [] (omega (arith, short)))) refl,
        λ more body reads. data_on bytes text more count (count - here) body (omega (arith, taken, short)) reads,
      )

  pub data_ends : (here < count → ⊥) → 0 < count → length bytes + count ≤ MAX_BODY_LEN
      → (0 < here) × (here ≤ length text) × FitsStage DataEnd [] (bytes ++ take here text)
      × ((more : List ℕ) (body : Body) → Resumes DataEnd (bytes ++ take here text) ([] ++ (drop here text ++ more)) body
      → Resumes (Data count) bytes ([] ++ (text ++ more)) body)
  data_ends long counts fits = (
    omega (arith, taken, long, counts),
    omega (arith, taken),
    (omega arith, omega (arith, fits, taken, length-append bytes (take here text), length-take here text)),
    λ more body reads. data_front more body
        (subst (λ left. GoesOn (bytes ++ take here text) (read_data left (drop here text ++ more)) body) (whole more) reads),
  )
    where
      whole : (more : List ℕ) → 0 ≡ count - here
      whole more = omega (arith, long, taken)

-- The CRLF after a chunk's bytes.
module _ (bytes held text after : List ℕ) (here : ℕ) (taken : here ≡ min (length text) (2 - length held))
    (short : length held < 2) (is : after ≡ held ++ take here text) where
  long : length after ≡ length held + here
  long = omega (arith, ap length is, taken, length-append held (take here text), length-take here text)

  parts : (more : List ℕ) → held ++ (text ++ more) ≡ after ++ (drop here text ++ more)
  parts more =
      ap (λ t. held ++ (t ++ more)) (sym (take-append-drop here text))
      ∙ ap (λ t. held ++ t) (append_assoc (take here text) (drop here text) more)
      ∙ sym (append_assoc held (take here text) (drop here text ++ more))
      ∙ ap (λ t. t ++ (drop here text ++ more)) (sym is)

  pub end_awaits : length after < 2 → length bytes ≤ MAX_BODY_LEN
      → FitsStage DataEnd after bytes × Resumes DataEnd bytes (after ++ []) unfinished
      × ((more : List ℕ) (body : Body) → Resumes DataEnd bytes (after ++ more) body → Resumes DataEnd bytes (held ++ (text ++ more)) body)
  end_awaits part fits = (
    (part, fits),
    subst (λ part. GoesOn bytes part unfinished) (sym (read_data_short 0 (after ++ []) (omega (arith, part, length-append after [])))) refl,
    λ more body reads. subst (λ t. GoesOn bytes (read_data 0 t) body) (sym (all more)) reads,
  )
    where
      all : (more : List ℕ) → held ++ (text ++ more) ≡ after ++ more
      all more =
          parts more ∙ ap (λ t. after ++ (t ++ more)) (drop_all here text (omega (arith, part, long, taken)))

  -- Both bytes are present.
  both : (more : List ℕ) → 2 ≤ length after → read_data 0 (held ++ (text ++ more)) ≡
      cond (bytes_eq after crlf_bytes) (chunk [] (drop here text ++ more)) (last (broken BadChunk (drop here text ++ more)))
  both more full =
      let two : length after ≡ 2 = omega (arith, full, long, taken, short) in
      let front : take 2 (after ++ (drop here text ++ more)) ≡ after =
      take-append-le 2 after (drop here text ++ more) (omega (arith, two)) ∙ take_all 2 after (omega (arith, two)) in
      let rest : drop 2 (after ++ (drop here text ++ more)) ≡ drop here text ++ more =
      drop_behind after (drop here text ++ more) 2 0 (omega (arith, two)) in
      ap (read_data 0) (parts more)
      ∙ read_data_long 0 (after ++ (drop here text ++ more)) (omega (arith, two, length-append after (drop here text ++ more)))
      ∙ ap (λ t. cond (bytes_eq t crlf_bytes) (chunk [] (drop 2 (after ++ (drop here text ++ more)))) (last (broken BadChunk (drop 2 (after ++ (drop here text ++ more)))))) front
      ∙ ap (λ t. cond (bytes_eq after crlf_bytes) (chunk [] t) (last (broken BadChunk t))) rest

  pub end_breaks : 2 ≤ length after → bytes_eq after crlf_bytes ≡ false
      → (here ≤ length text) × Resumes DataEnd bytes (held ++ text) (broken BadChunk (drop here text))
  end_breaks full other = (
    omega (arith, taken),
    subst (λ t. GoesOn bytes (read_data 0 (held ++ t)) (broken BadChunk (drop here text))) (append-nil text)
        (subst (λ part. GoesOn bytes part (broken BadChunk (drop here text)))
        (sym (both [] full ∙ cond-false (bytes_eq after crlf_bytes) (chunk [] (drop here text ++ [])) (last (broken BadChunk (drop here text ++ []))) other))
        (ap (broken BadChunk) (sym (append-nil (drop here text))))),
  )

  pub end_moves : 2 ≤ length after → bytes_eq after crlf_bytes ≡ true → length bytes ≤ MAX_BODY_LEN
      → (0 < here) × (here ≤ length text) × FitsStage SizeLine [] bytes
      × ((more : List ℕ) (body : Body) → Resumes SizeLine bytes ([] ++ (drop here text ++ more)) body
      → Resumes DataEnd bytes (held ++ (text ++ more)) body)
  end_moves full same fits = (
    omega (arith, full, long, short),
    omega (arith, taken),
    (refl, fits),
    λ more body reads. subst (λ part. GoesOn bytes part body)
        (sym (both more full ∙ cond-true (bytes_eq after crlf_bytes) (chunk [] (drop here text ++ more)) (last (broken BadChunk (drop here text ++ more))) same))
        (subst (λ all. ReadsRest all (drop here text ++ more) body) (sym (append-nil bytes)) reads),
  )
