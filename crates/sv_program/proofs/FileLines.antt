-- The search for the line on which a value begins.
use Rattle.std.proofs.Common.{◌≡◌, ◌∙◌, ℕ, ◌+◌, ◌-◌, ◌<◌, ◌≤◌, Bool, true, false, cond, List, [], ◌∷◌, ◌++◌, length, drop, get_or, drop-cons, add-one, append_assoc, ap, sym, zero, suc, refl, ◌⊎◌, inl, inr, Some, None, arith}
use Rattle.std.specs.List.{slice_index_or}
use Rattle.std.specs.Str.{IsUtf8, is_utf8}
use Rattle.std.proofs.lemmas.Bool.{cases_lt}
use Rattle.std.proofs.lemmas.Str.{IsUtf8-from_is_utf8, is_utf8-from_IsUtf8}
use Rattle.sv_program.specs.FileLine.{AreOpen, BeginsBetween, IsNarrowed, ends_from, line_ends, text_of}
use Rattle.sv_program.specs.Place.{ends_line}
use Rattle.sv_program.specs.declared.file_line.Region.{Region}
use Rattle.sv_program.specs.declared.file_line.Presence.{Presence}
use Rattle.sv_program.specs.declared.file_line.Presence.TheVariants.{NotToml, Lacking, Present}

-- ---- a text
-- bytes that are UTF-8, and bytes that are not
pub is_text : (bytes : List ℕ) → IsUtf8 bytes → text_of bytes ≡ Some bytes
is_text bytes is = rw (is_utf8-from_IsUtf8 bytes is) refl

pub is_no_text : (bytes : List ℕ) → ¬ (IsUtf8 bytes) → text_of bytes ≡ None
is_no_text bytes none = by (is_utf8 bytes) refl
  where
    by : (is : Bool) → is_utf8 bytes ≡ is → cond is (Some bytes) None ≡ None
    by true same = absurd (none (IsUtf8-from_is_utf8 bytes same))
    by false same = refl

-- ---- the ends of the lines
more_text : (text : List ℕ) (i byte : ℕ) → i < length text → byte ≡ get_or text i byte → drop i text ≡ byte ∷ drop (i + 1) text
more_text text i byte within is = rw (add-one, drop-cons text i byte) (ap (λ x. x ∷ drop (suc i) text) (sym is))

-- one more byte, which ends a line
pub end_more : (text ends next whole : List ℕ) (i byte : ℕ) → i < length text → byte ≡ get_or text i byte → ends_line byte ≡ true
    → next ≡ ends ++ (i + 1) ∷ [] → ends ++ ends_from i (drop i text) ≡ whole → next ++ ends_from (i + 1) (drop (i + 1) text) ≡ whole
end_more text ends next whole i byte within is here pushed known =
    let shown = rw (more_text text i byte within is) at known in
    rw pushed (append_assoc ends ((i + 1) ∷ []) (ends_from (i + 1) (drop (i + 1) text)) ∙ rw here at shown)

-- one more byte, which ends none
pub end_same : (text ends whole : List ℕ) (i byte : ℕ) → i < length text → byte ≡ get_or text i byte → ends_line byte ≡ false
    → ends ++ ends_from i (drop i text) ≡ whole → ends ++ ends_from (i + 1) (drop (i + 1) text) ≡ whole
end_same text ends whole i byte within is here known =
    let shown = rw (more_text text i byte within is) at known in
    rw here at shown

-- the ends of the lines are within the text
ends_within : (at : ℕ) (text : List ℕ) (i : ℕ) → slice_index_or (ends_from at text) i 0 ≤ at + length text
ends_within at [] zero = omega arith
ends_within at [] (suc i) = omega arith
ends_within at (byte ∷ rest) i = by (ends_line byte) i (λ k. ends_within (at + 1) rest k)
  where
    by : (ends : Bool) (i : ℕ) → ((k : ℕ) → slice_index_or (ends_from (at + 1) rest) k 0 ≤ (at + 1) + length rest)
        → slice_index_or (cond ends ((at + 1) ∷ ends_from (at + 1) rest) (ends_from (at + 1) rest)) i 0 ≤ at + length (byte ∷ rest)
    by true zero below = omega arith
    by true (suc i) below = let here = below i in omega (arith, here)
    by false i below = let here = below i in omega (arith, here)

pub line_ends_within : (text : List ℕ) (i : ℕ) → slice_index_or (line_ends text) i 0 ≤ length text
line_ends_within text zero = omega arith
line_ends_within text (suc i) = let here = ends_within 0 text i in omega (arith, here)

abbrev pub region_at : List ℕ → ℕ → ℕ → Region
region_at ends low high = record { line = low + 1; start = slice_index_or ends low 0; end = slice_index_or ends high 0 }

-- the lines between two of the ends
pub same_region : (ends found : List ℕ) (low high : ℕ) → ends ≡ found → region_at ends low high ≡ region_at found low high
same_region ends found low high same = ap (λ it. region_at it low high) same

-- ---- the search
module _ (state : ℕ → Presence) where
  pub open_join : (a b c : ℕ) → AreOpen state a b → AreOpen state b c → AreOpen state a c
  open_join a b c first second number after within = by (cases_lt b number)
    where
      by : (b < number) ⊎ (number ≤ b) → state number ≡ NotToml
      by (inl above) = second number above within
      by (inr below) = first number after below

  pub open_less : (number last : ℕ) → state number ≡ NotToml → AreOpen state number last → AreOpen state (number - 1) last
  open_less number last here skipped at after within = by (cases_lt number at)
    where
      by : (number < at) ⊎ (at ≤ number) → state at ≡ NotToml
      by (inl above) = skipped at above within
      by (inr below) = let same : at ≡ number = omega (arith, after, below) in rw same here

  pub open_from : (number bound last : ℕ) → number ≤ bound → AreOpen state number last → AreOpen state bound last
  open_from number bound last below skipped at after within = skipped at (omega (arith, below, after)) within

  pub open_none : (last : ℕ) → AreOpen state last last
  open_none last at after within = absurd (omega (arith, after, within))

  -- no front up to the middle is TOML
  pub narrowed_to_middle : (low bound middle high : ℕ) → IsNarrowed state low bound high → bound ≤ middle → middle < high
      → AreOpen state bound middle → IsNarrowed state low middle high
  narrowed_to_middle low bound middle high narrowed above below skipped = record {
    rising = omega (arith, narrowed.rising, above);
    apart = below;
    lacking = narrowed.lacking;
    present = narrowed.present;
    skipped = open_join low bound middle narrowed.skipped skipped;
  }

  -- a front lacks the value
  pub narrowed_from : (low bound number middle high : ℕ) → IsNarrowed state low bound high → number ≤ middle → middle < high
      → state number ≡ Lacking → AreOpen state number middle → IsNarrowed state number middle high
  narrowed_from low bound number middle high narrowed above below lacking skipped = record {
    rising = above;
    apart = below;
    lacking = lacking;
    present = narrowed.present;
    skipped = skipped;
  }

  -- a front has the value
  pub narrowed_before : (low bound number high : ℕ) → IsNarrowed state low bound high → bound < number → state number ≡ Present
      → IsNarrowed state low bound number
  narrowed_before low bound number high narrowed above present = record {
    rising = narrowed.rising;
    apart = above;
    lacking = narrowed.lacking;
    present = present;
    skipped = narrowed.skipped;
  }

  -- nothing is left between both
  pub begins_between : (low bound high last : ℕ) → IsNarrowed state low bound high → high ≤ bound + 1 → high ≤ last → BeginsBetween state last low high
  begins_between low bound high last narrowed next within = record {
    lacking = narrowed.lacking;
    after = omega (arith, narrowed.rising, narrowed.apart);
    within = within;
    present = narrowed.present;
    skipped = λ between after before. narrowed.skipped between after (omega (arith, next, before));
  }

  -- what is found among fewer fronts
  pub found_within : (bound last low high : ℕ) → bound ≤ last → BeginsBetween state bound low high → BeginsBetween state last low high
  found_within bound last low high below found = record {
    lacking = found.lacking;
    after = found.after;
    within = omega (arith, below, found.within);
    present = found.present;
    skipped = found.skipped;
  }
