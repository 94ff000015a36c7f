-- The bodies of messages are within the limit, and the text after an item is no longer than the text before it.
use Rattle.std.proofs.Common.{◌≡◌, ℕ, ◌≤◌, Bool, true, false, List, [], ◌∷◌, ◌++◌, length, take, drop, Option, None, Some, Result, Ok, Err, refl, sym, subst, inl, inr, cond, ltb, not, codes, arith}
use Rattle.std.specs.Prelude.{All}
use Rattle.std.specs.Bool.{MatchBool}
use Rattle.std.proofs.lemmas.Bool.{ltb-false}
use Rattle.std.proofs.lemmas.List.{length-drop}
use Rattle.std.proofs.lemmas.List.Elements.{All-nil, All-cons}
use Rattle.sv_text.specs.declared.front.Cut.{Cut}
use Rattle.sv_text.specs.declared.front.Cut.TheVariants.{Whole, Endless, Unended}
use Rattle.sv_text.specs.Faults.{when, first_or}
use Rattle.sv_wire.specs.declared.body_reader.Framing.TheVariants.{Length, Chunked}
use Rattle.sv_wire.specs.declared.limits.TheConstants.{MAX_BODY_LEN}
use Rattle.sv_wire.specs.Body.{FitsLimit}
use Rattle.sv_wire.specs.Chunks.{Body, unfinished, complete, broken}
use Rattle.sv_wire.proofs.BodyLimitLemmas.{IsWithin, LeavesRest, ReadsBody_keeps}
use Rattle.sv_message.specs.declared.field.Field.{Field}
use Rattle.sv_message.specs.declared.target.TargetForm.{TargetForm}
use Rattle.sv_message.specs.Fields.{fields_of, values_of}
use Rattle.sv_message.specs.Host.{accepts_hosts}
use Rattle.sv_message.specs.TargetForm.{target_form}
use Rattle.httparse.specs.Grammar.{RequestHead}
use Rattle.sv_wire.specs.declared.limits.TheConstants.{MAX_HEAD_LEN}
use Rattle.sv_wire.specs.declared.owed_head.OwedHead.{OwedHead}
use Rattle.sv_wire.specs.declared.owed_head.Judgement.{Judgement}
use Rattle.sv_wire.specs.declared.owed_head.Judgement.TheVariants.{Refused, Expecting, Accepted}
use Rattle.sv_wire.specs.declared.wire_fault.WireFault.{WireFault}
use Rattle.sv_wire.specs.declared.wire_fault.WireFault.TheVariants.{BadHost, BadFraming, BodyTooLarge, BadExpect, BadTarget, HeadTooLarge}
use Rattle.sv_wire.specs.Head.{accept, body_len, faults_of, framing_faults, framing_of, has_codings, is_unknown, is_unknown_expectation, judge, owed_head, judgement_of}
use Rattle.sv_wire.specs.Items.{is_last}
use Rattle.sv_wire.specs.Laws.{IsWithinLimit, OwesWithinLimit, BodiesAreWithinTheLimit}
use Rattle.sv_wire.specs.Reads.{IsJudged, has_too_many_lines, ReadsHead, cut_head, Start, gives, awaits, after_body, StartsBody, StartsBehind, StartsAt, text_of, Starts, Reads}

-- ---- the framing of a head without faults

none_of : (faults : List WireFault) (more : List WireFault) → faults ++ more ≡ [] → (faults ≡ []) × (more ≡ [])
none_of [] more none = (refl, none)
none_of (fault ∷ faults) more none = absurd (cc)

no_fault : (faults : List WireFault) (u : Unit {0}) → first_or faults (tt {0}) ≡ Ok u → faults ≡ []
no_fault [] u accepted = refl
no_fault (fault ∷ faults) u accepted = absurd (cc)

not_when : (test : Bool) (fault : WireFault) → when test fault ≡ [] → test ≡ false
not_when true fault none = absurd (cc)
not_when false fault none = refl

fits_by : (codings test : Bool) (faults : List WireFault) (count : ℕ)
    → cond codings faults (when test BadFraming ++ when (ltb MAX_BODY_LEN count) BodyTooLarge) ≡ [] → FitsLimit (cond codings Chunked (Length count))
fits_by true test faults count none = tt
fits_by false test faults count none =
    ltb-false MAX_BODY_LEN count (not_when (ltb MAX_BODY_LEN count) BodyTooLarge (none_of (when test BadFraming) _ none).1)

framing_fits : (minor : ℕ) (fields : List Field) → framing_faults minor fields ≡ [] → FitsLimit (framing_of fields)
framing_fits minor fields none = fits_by (has_codings fields) _ _ (body_len fields) none

-- The head that a judgement owes has a body within the limit.
abbrev OwesFit : Judgement → Type 0
OwesFit (Refused fault) = Unit {0}
OwesFit (Expecting owed) = FitsLimit owed.framing
OwesFit (Accepted owed) = FitsLimit owed.framing

judgement_fits : (result : Result (Unit {0}) WireFault) (asked : Bool) (owed : OwedHead) → ((u : Unit {0}) → result ≡ Ok u → FitsLimit owed.framing)
    → OwesFit (judgement_of result asked owed)
judgement_fits (Err fault) asked owed fits = tt
judgement_fits (Ok u) true owed fits = fits u refl
judgement_fits (Ok u) false owed fits = fits u refl

none_third : (a b c d : List WireFault) → a ++ b ++ c ++ d ≡ [] → c ≡ []
none_third a b c d none = (none_of (a ++ b) c (none_of (a ++ b ++ c) d none).0).1

accepted_fits : (minor : ℕ) (form : TargetForm) (fields : List Field) (u : Unit {0}) → accept minor form fields ≡ Ok u → FitsLimit (framing_of fields)
accepted_fits minor form fields u accepted =
    framing_fits minor fields
    (none_third (when (not (accepts_hosts minor (values_of (codes "host") fields))) BadHost) (when (is_unknown form) BadTarget) (framing_faults minor fields)
    (when (is_unknown_expectation minor fields) BadExpect) (no_fault (faults_of minor form fields) u accepted))

judged_fits : (head : RequestHead) → OwesFit (judge head)
judged_fits head =
    judgement_fits _ _ (owed_head (target_form head.method head.target) head (fields_of head))
    (accepted_fits head.minor (target_form head.method head.target) (fields_of head))

ReadsHead_fits : (text : List ℕ) (judgement : Judgement) → ReadsHead text judgement → OwesFit judgement
ReadsHead_fits text judgement = by_lines (has_too_many_lines text)
  where
    by_head : IsJudged text judgement → OwesFit judgement
    by_head (inl found) = subst OwesFit (sym found.2) (judged_fits found.0)
    by_head (inr none) = subst OwesFit (sym none.1) tt

    by_lines : (t : Bool) → MatchBool t (judgement ≡ Refused HeadTooLarge) (IsJudged text judgement) → OwesFit judgement
    by_lines true refused = subst OwesFit (sym refused) tt
    by_lines false judged = by_head judged

-- ---- the start of a text

-- The item and the head owed after it are within the limit, and the text after it is no longer than the whole.
abbrev StartFits : List ℕ → Start → Type 0
StartFits text (gives item next behind) = IsWithinLimit item × OwesWithinLimit next × (length behind ≤ length text)
StartFits text awaits = Unit {0}

StartFits-longer : (front text : List ℕ) (start : Start) → length front ≤ length text → StartFits front start → StartFits text start
StartFits-longer front text (gives item next behind) longer fits = (fits.0, fits.1, omega (arith, longer, fits.2))
StartFits-longer front text awaits longer fits = tt

after_body_fits : (owed : OwedHead) (text : List ℕ) (body : Body) → IsWithin body × LeavesRest body text → StartFits text (after_body owed body)
after_body_fits owed text unfinished keeps = tt
after_body_fits owed text (complete bytes rest) keeps = (keeps.0, tt, keeps.1)
after_body_fits owed text (broken fault rest) keeps = (tt, tt, keeps.1)

StartsBody_fits : (owed : OwedHead) (text : List ℕ) (start : Start) → FitsLimit owed.framing → StartsBody owed text start → StartFits text start
StartsBody_fits owed text start fits starts =
    subst (StartFits text) (sym starts.2) (after_body_fits owed text starts.0 (ReadsBody_keeps owed.framing text starts.0 fits starts.1))

StartsBehind_fits : (judgement : Judgement) (text : List ℕ) (start : Start) → OwesFit judgement → StartsBehind judgement text start → StartFits text start
StartsBehind_fits (Refused fault) text start fits starts = subst (StartFits text) (sym starts) (tt, tt, omega arith)
StartsBehind_fits (Expecting owed) text start fits starts = subst (StartFits text) (sym starts) (tt, fits, omega arith)
StartsBehind_fits (Accepted owed) text start fits starts = StartsBody_fits owed text start fits starts

StartsAt_fits : (c : Cut) (text : List ℕ) (start : Start) → StartsAt c text start → StartFits text start
StartsAt_fits (Whole n) text start starts =
    StartFits-longer (drop n text) text start (omega (arith, length-drop n text))
    (StartsBehind_fits starts.0 (drop n text) start (ReadsHead_fits (take n text) starts.0 starts.1) starts.2)
StartsAt_fits Endless text start starts = subst (StartFits text) (sym starts) (tt, tt, omega (arith, length-drop MAX_HEAD_LEN text))
StartsAt_fits Unended text start starts = subst (StartFits text) (sym starts) tt

pub Starts_fits : (owed : Option OwedHead) (text : List ℕ) (start : Start) → OwesWithinLimit owed → Starts owed text start → StartFits text start
Starts_fits None text start fits starts = StartsAt_fits (cut_head text) text start starts
Starts_fits (Some owed) text start fits starts = StartsBody_fits owed text start fits starts

pub bodies_are_within_the_limit : BodiesAreWithinTheLimit
bodies_are_within_the_limit owed stream [] left rest fits reads = (All-nil IsWithinLimit, subst OwesWithinLimit (sym reads.0) fits)
bodies_are_within_the_limit owed stream (item ∷ items) left rest fits reads =
    by_last (Starts_fits owed (text_of owed stream) (gives item reads.0 reads.1) fits reads.2)
    (bodies_are_within_the_limit reads.0 reads.1 items left rest) (is_last item) reads.3
  where
    by_last : StartFits (text_of owed stream) (gives item reads.0 reads.1)
        → (OwesWithinLimit reads.0 → Reads reads.0 reads.1 items left rest → All IsWithinLimit items × OwesWithinLimit left)
        → (t : Bool) → MatchBool t ((items ≡ []) × (left ≡ None) × (rest ≡ [])) (Reads reads.0 reads.1 items left rest)
        → All IsWithinLimit (item ∷ items) × OwesWithinLimit left
    by_last here later true none = (
      All-cons IsWithinLimit item items here.0 (subst (All IsWithinLimit) (sym none.0) (All-nil IsWithinLimit)),
      subst OwesWithinLimit (sym none.1) tt,
    )
    by_last here later false behind =
        let more = later here.1 behind in
        (All-cons IsWithinLimit item items here.0 more.0, more.1)
