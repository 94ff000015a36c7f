-- Every stream has a reading, up to double negation.
use Rattle.std.proofs.Common.{◌≡◌, ℕ, zero, suc, ◌+◌, ◌*◌, ◌≤◌, ◌<◌, Bool, true, false, List, [], ◌∷◌, length, take, drop, Option, None, Some, refl, sym, subst, inl, inr, arith}
use Rattle.std.specs.Bool.{MatchBool}
use Rattle.std.proofs.lemmas.List.{length-drop}
use Rattle.sv_text.specs.declared.front.Cut.{Cut}
use Rattle.sv_text.specs.declared.front.Cut.TheVariants.{Whole, Endless, Unended}
use Rattle.sv_wire.specs.Chunks.{Body, unfinished, complete, broken}
use Rattle.sv_wire.proofs.BoolLemmas.{MatchBool-from_true, MatchBool-from_false}
use Rattle.sv_wire.proofs.BodyExistenceLemmas.{NotNone, some_body, ReadsBody_leaves}
use Rattle.sv_wire.proofs.BodyLimitLemmas.{LeavesRest}
use Rattle.sv_wire.specs.declared.item.Item.{Item}
use Rattle.sv_wire.specs.declared.owed_head.OwedHead.{OwedHead}
use Rattle.sv_wire.specs.declared.owed_head.Judgement.{Judgement}
use Rattle.sv_wire.specs.declared.owed_head.Judgement.TheVariants.{Refused, Expecting, Accepted}
use Rattle.sv_wire.specs.declared.wire_fault.WireFault.TheVariants.{BadHead, HeadTooLarge}
use Rattle.sv_wire.specs.Head.{judge}
use Rattle.sv_wire.specs.Items.{is_last}
use Rattle.sv_wire.specs.Laws.{ReadingsExist}
use Rattle.sv_wire.specs.Next.{HoldsText}
use Rattle.sv_wire.specs.Reads.{IsJudged, has_too_many_lines, ReadsHead, cut_head, Start, gives, awaits, after_body, StartsBody, StartsBehind, StartsAt, text_of, Starts, Reads}
use Rattle.sv_wire.proofs.EmptyLinesLemmas.{drop_empty_lines_fits}
use Rattle.sv_wire.proofs.ReadsLemmas.{cut_holds}

-- ---- each text begins with something

some_judgement : (text : List ℕ) → NotNone ((judgement : Judgement) × ReadsHead text judgement)
some_judgement text = by_lines (has_too_many_lines text)
  where
    by_lines : (t : Bool) → NotNone ((judgement : Judgement) × MatchBool t (judgement ≡ Refused HeadTooLarge) (IsJudged text judgement))
    by_lines true none = none (Refused HeadTooLarge, refl)
    by_lines false none = none (Refused BadHead, inr ((λ head reads. none (judge head, inl (head, reads, refl))), refl))

some_body_start : (owed : OwedHead) (text : List ℕ) → NotNone ((start : Start) × StartsBody owed text start)
some_body_start owed text none = some_body owed.framing text (λ found. none (after_body owed found.0, (found.0, found.1, refl)))

some_start_behind : (judgement : Judgement) (text : List ℕ) → NotNone ((start : Start) × StartsBehind judgement text start)
some_start_behind (Refused fault) text none = none (_, refl)
some_start_behind (Expecting owed) text none = none (_, refl)
some_start_behind (Accepted owed) text none = some_body_start owed text none

some_start_at : (c : Cut) (text : List ℕ) → NotNone ((start : Start) × StartsAt c text start)
some_start_at (Whole n) text none =
    some_judgement (take n text) (λ found. some_start_behind found.0 (drop n text) (λ start. none (start.0, (found.0, found.1, start.1))))
some_start_at Endless text none = none (_, refl)
some_start_at Unended text none = none (_, refl)

some_start : (owed : Option OwedHead) (text : List ℕ) → NotNone ((start : Start) × Starts owed text start)
some_start None text none = some_start_at (cut_head text) text none
some_start (Some owed) text none = some_body_start owed text none

-- ---- each item takes bytes, or the head that is owed

abbrev to_read : Option OwedHead → ℕ → ℕ
to_read None count = 2 * count
to_read (Some owed) count = 2 * count + 1

-- The input left by an item is less than the bound.
abbrev LeavesLess : ℕ → Start → Type 0
LeavesLess bound (gives item next behind) = to_read next (length behind) < bound
LeavesLess bound awaits = Unit {0}

body_leaves : (owed : OwedHead) (text : List ℕ) (bound : ℕ) (body : Body) → 2 * length text < bound → LeavesRest body text
    → LeavesLess bound (after_body owed body)
body_leaves owed text bound unfinished below leaves = tt
body_leaves owed text bound (complete bytes rest) below leaves = omega (arith, below, leaves)
body_leaves owed text bound (broken fault rest) below leaves = omega (arith, below, leaves)

StartsBody_leaves : (owed : OwedHead) (text : List ℕ) (bound : ℕ) (start : Start) → 2 * length text < bound → StartsBody owed text start
    → LeavesLess bound start
StartsBody_leaves owed text bound start below starts =
    subst (LeavesLess bound) (sym starts.2) (body_leaves owed text bound starts.0 below (ReadsBody_leaves owed.framing text starts.0 starts.1))

StartsBehind_leaves : (judgement : Judgement) (text : List ℕ) (bound : ℕ) (start : Start) → 2 * length text + 1 < bound → StartsBehind judgement text start
    → LeavesLess bound start
StartsBehind_leaves (Refused fault) text bound start below starts = subst (LeavesLess bound) (sym starts) (omega (arith, below))
StartsBehind_leaves (Expecting owed) text bound start below starts = subst (LeavesLess bound) (sym starts) below
StartsBehind_leaves (Accepted owed) text bound start below starts = StartsBody_leaves owed text bound start (omega (arith, below)) starts

StartsAt_leaves : (c : Cut) (text : List ℕ) (start : Start) → HoldsText text c → StartsAt c text start → LeavesLess (2 * length text) start
StartsAt_leaves (Whole n) text start holds starts =
    StartsBehind_leaves starts.0 (drop n text) (2 * length text) start (omega (arith, holds.0, holds.1, length-drop n text)) starts.2
StartsAt_leaves Endless text start holds starts =
    subst (LeavesLess (2 * length text)) (sym starts) (omega (arith, holds, length-drop 65536 text))
StartsAt_leaves Unended text start holds starts = subst (LeavesLess (2 * length text)) (sym starts) tt

Starts_leaves : (owed : Option OwedHead) (text : List ℕ) (start : Start) → Starts owed text start → LeavesLess (to_read owed (length text)) start
Starts_leaves None text start starts = StartsAt_leaves (cut_head text) text start (cut_holds text _ refl) starts
Starts_leaves (Some owed) text start starts = StartsBody_leaves owed text (2 * length text + 1) start (omega arith) starts

text_fits : (owed : Option OwedHead) (stream : List ℕ) → to_read owed (length (text_of owed stream)) ≤ to_read owed (length stream)
text_fits None stream = omega (arith, drop_empty_lines_fits stream)
text_fits (Some owed) stream = omega arith

-- ---- readings

abbrev SomeReading : Option OwedHead → List ℕ → Type 0
SomeReading owed stream = (items : List Item) × ((left : Option OwedHead) × ((rest : List ℕ) × Reads owed stream items left rest))

reading_by : (owed : Option OwedHead) (stream : List ℕ) (start : Start) → Starts owed (text_of owed stream) start
    → ((next : Option OwedHead) (behind : List ℕ) → to_read next (length behind) < to_read owed (length (text_of owed stream)) → NotNone (SomeReading next behind))
    → NotNone (SomeReading owed stream)
reading_by owed stream awaits starts later none = none ([], (owed, (text_of owed stream, (refl, refl, starts))))
reading_by owed stream (gives item next behind) starts later none = by_last (is_last item) refl
  where
    by_last : (t : Bool) → is_last item ≡ t → ⊥
    by_last true last =
        none (item ∷ [], (None, ([], (next, behind, starts, MatchBool-from_true (is_last item) _ _ last (refl, refl, refl)))))
    by_last false goes_on =
        later next behind (Starts_leaves owed (text_of owed stream) (gives item next behind) starts)
        (λ found. none (item ∷ found.0, (found.1.0, (found.1.1.0, (next, behind, starts, MatchBool-from_false (is_last item) _ _ goes_on found.1.1.1)))))

some_reading : (bound : ℕ) (owed : Option OwedHead) (stream : List ℕ) → to_read owed (length stream) < bound → NotNone (SomeReading owed stream)
some_reading zero owed stream below none = absurd (omega (arith, below))
some_reading (suc bound) owed stream below none =
    some_start owed (text_of owed stream) (λ found. reading_by owed stream found.0 found.1
    (λ next behind less. some_reading bound next behind (omega (arith, below, less, text_fits owed stream))) none)

pub readings_exist : ReadingsExist
readings_exist owed stream none =
    some_reading (suc (to_read owed (length stream))) owed stream (omega arith) (λ found. none found.0 found.1.0 found.1.1.0 found.1.1.1)
