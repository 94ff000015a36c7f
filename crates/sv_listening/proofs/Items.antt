-- The number of messages and calls to continue that a text completes.
use Rattle.std.proofs.Common.{◌≡◌, ℕ, suc, ◌+◌, ◌-◌, ◌≤◌, Bool, true, false, ◌⊎◌, List, [], ◌∷◌, ◌++◌, length, take, drop, Option, None, Some, Result, Ok, Err, refl, sym, ap, ◌∙◌, subst, inl, inr, cond, arith, length-append, append-nil}
use Rattle.std.specs.Bool.{MatchBool}
use Rattle.std.specs.List.{count_by}
use Rattle.std.proofs.lemmas.List.{get_or_append_left, length-take, take-append-le, drop-append-le, take-take}
use Rattle.std.proofs.Math.Seq.{get_or-append_seam}
use Rattle.std.proofs.lemmas.List.Elements.{All-drop, All-take}
use Rattle.std.proofs.lemmas.List.Sums.{sum_by-append}
use Rattle.httparse.specs.Grammar.{RequestHead, ReadsRequest, print_blank, print_end, print_request, print_section, print_version}
use Rattle.sv_wire.proofs.ListLemmas.{drop_behind}
use Rattle.sv_wire.specs.declared.body_reader.Framing.{Framing}
use Rattle.sv_wire.specs.Body.{ReadsBody}
use Rattle.sv_wire.specs.Chunks.{Body, unfinished, complete, broken}
use Rattle.sv_text.proofs.FrontLemmas.{cut-whole, cut_unended-fronts}
use Rattle.sv_text.specs.declared.front.Cut.{Cut}
use Rattle.sv_text.specs.declared.front.Cut.TheVariants.{Endless, Unended, Whole}
use Rattle.sv_wire.specs.declared.item.Item.{Item}
use Rattle.sv_wire.specs.declared.item.Item.TheVariants.{Continue, Message, Refuse}
use Rattle.sv_wire.specs.declared.limits.TheConstants.{MAX_HEAD_LEN}
use Rattle.sv_wire.specs.declared.owed_head.OwedHead.{OwedHead}
use Rattle.sv_wire.specs.declared.wire_fault.WireFault.{WireFault}
use Rattle.sv_wire.specs.declared.wire_fault.WireFault.TheVariants.{BadHead, HeadTooLarge}
use Rattle.sv_wire.specs.EmptyLines.{drop_empty_lines, is_of_empty_line}
use Rattle.sv_wire.specs.Head.{ends_head, judgement_of}
use Rattle.sv_wire.specs.Items.{is_last}
use Rattle.sv_wire.specs.WireFault.{fault_of}
use Rattle.sv_message.specs.declared.message.Message.{Message as MessageRecord}
use Rattle.sv_wire.specs.Next.{HoldsText}
use Rattle.sv_message.specs.Messages.{with_body}
use Rattle.sv_wire.specs.Reads.{IsJudged, ReadsHead, Reads, Start, Starts, StartsAt, StartsBehind, StartsBody, after_body, awaits, cut_head, gives, has_too_many_lines, text_of}
use Rattle.sv_wire.proofs.ReadsLemmas.{settled, IsSettled, ReadsHead-unique, cut_holds}
use Rattle.sv_wire.proofs.EmptyLinesLemmas.{drop_empty_lines_twice}
use Rattle.sv_listening.proofs.LineEnds.{AreLineEnds, EndsInLineEnds, HasLineEndsBehind, IsLineEnd, ends_so_behind, part_ends_so, parts_end_so}
use Rattle.sv_listening.proofs.OwnTexts.{body_ends, body_owns}
use Rattle.sv_listening.specs.Bound.{AreFew, PartsCompleteLittle, is_call_to_continue, is_message}
use Rattle.sv_listening.specs.Parts.{is_line_end}

-- At most `messages` messages and `calls` calls to continue, and a refusal only as the last item.
abbrev pub AreAtMost : ℕ → ℕ → List Item → Type 0
AreAtMost messages calls [] = Unit {0}
AreAtMost messages calls (Message message ∷ items) = (n : ℕ) × (messages ≡ suc n) × AreAtMost n calls items
AreAtMost messages calls (Continue ∷ items) = (n : ℕ) × (calls ≡ suc n) × AreAtMost messages n items
AreAtMost messages calls (Refuse fault ∷ items) = items ≡ []

more_at_most : (messages calls more_messages more_calls : ℕ) (items : List Item) → messages ≤ more_messages → calls ≤ more_calls
    → AreAtMost messages calls items → AreAtMost more_messages more_calls items
more_at_most messages calls more_messages more_calls [] first second few = tt
more_at_most messages calls more_messages more_calls (Message message ∷ items) first second (n, is, few) = (
  more_messages - 1,
  omega (arith, is, first),
  more_at_most n calls (more_messages - 1) more_calls items (omega (arith, is, first)) second few,
)
more_at_most messages calls more_messages more_calls (Continue ∷ items) first second (n, is, few) = (
  more_calls - 1,
  omega (arith, is, second),
  more_at_most messages n more_messages (more_calls - 1) items first (omega (arith, is, second)) few,
)
more_at_most messages calls more_messages more_calls (Refuse fault ∷ items) first second none = none

-- ---- Line ends

front_ends : (front behind : List ℕ) → AreLineEnds (front ++ behind) → AreLineEnds front
front_ends front behind ends k d below =
    subst IsLineEnd (get_or_append_left front behind d k below) (ends k d (omega (arith, below, length-append front behind)))

byte_ends : (front : List ℕ) (byte : ℕ) (behind : List ℕ) → AreLineEnds (front ++ byte ∷ behind) → is_line_end byte ≡ true
byte_ends front byte behind ends =
    subst IsLineEnd (get_or-append_seam front byte behind 0) (ends (length front) 0 (omega (arith, length-append front (byte ∷ behind))))

-- Line ends hold no head, since a head holds a space.
no_head : (text : List ℕ) (head : RequestHead) → AreLineEnds text → ReadsRequest text head [] → ⊥
unfolding print_request
no_head text head ends (valid, is) =
    let line : List ℕ = print_blank head.blank ++ head.method ++ 32 ∷ head.target ++ 32 ∷ print_version head.minor in
    let start : List ℕ = line ++ print_end head.line_end in
    let printed : AreLineEnds (start ++ print_section head.fields head.last) = subst AreLineEnds (is ∙ append-nil (print_request head)) ends in
    let in_line : AreLineEnds line = front_ends line (print_end head.line_end) (front_ends start (print_section head.fields head.last) printed) in
    let space_ends : is_line_end 32 ≡ true = byte_ends (print_blank head.blank ++ head.method ++ 32 ∷ head.target) 32 (print_version head.minor) in_line in
    absurd (cc)

-- ---- The text after a head

-- A consequence of both cases holds.
pub by_match : {P Q C : Type 0} (t : Bool) → (P → C) → (Q → C) → MatchBool t P Q → C
by_match true first second holds = first holds
by_match false first second holds = second holds

-- A text begins with a refusal.
abbrev BeginsWithRefusal : List ℕ → Start → Type 0
BeginsWithRefusal text start = (fault : WireFault) × (start ≡ gives (Refuse fault) None text)

-- Two texts after the same head: it is refused, its body is asked for, or its body is read.
abbrev BothBehind : List ℕ → Start → List ℕ → Start → Type 0
BothBehind text start other other_start =
    (BeginsWithRefusal text start × BeginsWithRefusal other other_start)
    ⊎ (((owed : OwedHead) × (start ≡ gives Continue (Some owed) text) × (other_start ≡ gives Continue (Some owed) other))
    ⊎ ((owed : OwedHead) × StartsBody owed text start × StartsBody owed other other_start))

both_judged : (text : List ℕ) (start : Start) (other : List ℕ) (other_start : Start) (result : Result (Unit {0}) WireFault) (asked : Bool) (owed : OwedHead)
    → StartsBehind (judgement_of result asked owed) text start → StartsBehind (judgement_of result asked owed) other other_start
    → BothBehind text start other other_start
both_judged text start other other_start (Err fault) asked owed first second = inl ((fault, first), (fault, second))
both_judged text start other other_start (Ok u) true owed first second = inr (inl (owed, first, second))
both_judged text start other other_start (Ok u) false owed first second = inr (inr (owed, first, second))

module _ (n : ℕ) (text : List ℕ) (start : Start) (starts : StartsAt (Whole n) text start) where
  both_behind : (other : List ℕ) (other_start : Start) → StartsBehind starts.0 other other_start → BothBehind (drop n text) start other other_start
  both_behind other other_start later =
      by_match (has_too_many_lines (take n text))
      (λ refused.
      inl (
        (HeadTooLarge, subst (λ j. StartsBehind j (drop n text) start) refused starts.2),
        (HeadTooLarge, subst (λ j. StartsBehind j other other_start) refused later),
      ))
      by_head starts.1
    where
      by_head : IsJudged (take n text) starts.0 → BothBehind (drop n text) start other other_start
      by_head (inl (head, reads, is)) =
          both_judged (drop n text) start other other_start _ _ _
          (subst (λ j. StartsBehind j (drop n text) start) is starts.2) (subst (λ j. StartsBehind j other other_start) is later)
      by_head (inr (none, is)) =
          inl ((BadHead, subst (λ j. StartsBehind j (drop n text) start) is starts.2), (BadHead, subst (λ j. StartsBehind j other other_start) is later))

  -- A head of only line ends is refused.
  ends_are_refused : AreLineEnds (take n text) → BeginsWithRefusal (drop n text) start
  ends_are_refused ends =
      by_match (has_too_many_lines (take n text)) (λ refused. (HeadTooLarge, subst (λ j. StartsBehind j (drop n text) start) refused starts.2)) by_head starts.1
    where
      by_head : IsJudged (take n text) starts.0 → BeginsWithRefusal (drop n text) start
      by_head (inl (head, reads, is)) = absurd (no_head (take n text) head ends reads)
      by_head (inr (none, is)) = (BadHead, subst (λ j. StartsBehind j (drop n text) start) is starts.2)

-- The text after its leading empty lines is the last part of it.
behind_empty_lines : (text : List ℕ) → (k : ℕ) × (drop_empty_lines text ≡ drop k text)
behind_empty_lines [] = (0, refl)
behind_empty_lines (b ∷ text) = by_test (behind_empty_lines text) (is_of_empty_line b text)
  where
    by_test : (k : ℕ) × (drop_empty_lines text ≡ drop k text) → (t : Bool)
        → (k : ℕ) × (cond t (drop_empty_lines text) (b ∷ text) ≡ drop k (b ∷ text))
    by_test (k, is) true = (suc k, is)
    by_test (k, is) false = (0, refl)

line_ends_left : (text : List ℕ) → AreLineEnds text → AreLineEnds (drop_empty_lines text)
line_ends_left text ends = let (k, is) = behind_empty_lines text in subst AreLineEnds (sym is) (All-drop IsLineEnd k text ends)

ends_so_left : (text : List ℕ) → EndsInLineEnds text → EndsInLineEnds (drop_empty_lines text)
ends_so_left text ends = let (k, is) = behind_empty_lines text in subst EndsInLineEnds (sym is) (ends_so_behind k text ends)

-- ---- The text after an item

-- How a reading goes on after an item.
abbrev GoesOn : Item → List Item → Option OwedHead → List ℕ → Option OwedHead → List ℕ → Type 0
GoesOn item items next behind left rest = MatchBool (is_last item) ((items ≡ []) × (left ≡ None) × (rest ≡ [])) (Reads next behind items left rest)

module _ (messages calls : ℕ) (item : Item) (items : List Item) (next : Option OwedHead) (behind : List ℕ) (left : Option OwedHead) (rest : List ℕ) where
  few_behind_refusal : (fault : WireFault) → item ≡ Refuse fault → GoesOn item items next behind left rest → AreAtMost messages calls (item ∷ items)
  few_behind_refusal fault is on =
      subst (λ i. AreAtMost messages calls (i ∷ items)) (sym is) (subst (λ i. GoesOn i items next behind left rest) is on).0

  few_behind_message : (message : MessageRecord) → item ≡ Message message → (Reads next behind items left rest → AreAtMost messages calls items)
      → GoesOn item items next behind left rest → AreAtMost (suc messages) calls (item ∷ items)
  few_behind_message message is few on =
      subst (λ i. AreAtMost (suc messages) calls (i ∷ items)) (sym is)
      (messages, refl, by_last (is_last (Message message)) (subst (λ i. GoesOn i items next behind left rest) is on))
    where
      by_last : (t : Bool) → MatchBool t ((items ≡ []) × (left ≡ None) × (rest ≡ [])) (Reads next behind items left rest) → AreAtMost messages calls items
      by_last true (none, owes, holds) = subst (AreAtMost messages calls) (sym none) tt
      by_last false reads = few reads

  few_behind_call : item ≡ Continue → (Reads next behind items left rest → AreAtMost messages calls items) → GoesOn item items next behind left rest
      → AreAtMost messages (suc calls) (item ∷ items)
  few_behind_call is few on =
      subst (λ i. AreAtMost messages (suc calls) (i ∷ items)) (sym is) (calls, refl, few (subst (λ i. GoesOn i items next behind left rest) is on))

  -- After a body, if the text that follows it completes this few items.
  few_behind_body : (owed : OwedHead) (text : List ℕ) → StartsBody owed text (gives item next behind)
      → ((whole after : List ℕ) → ReadsBody owed.framing text (complete whole after) → Reads None after items left rest → AreAtMost messages calls items)
      → GoesOn item items next behind left rest → AreAtMost (suc messages) calls (item ∷ items)
  few_behind_body owed text (body, reads, starts) few on = by_body body reads starts
    where
      by_body : (b : Body) → ReadsBody owed.framing text b → gives item next behind ≡ after_body owed b → AreAtMost (suc messages) calls (item ∷ items)
      by_body unfinished read is = absurd (cc)
      by_body (complete whole after) read is =
          let same_item : item ≡ Message (with_body whole owed.message) = cc in
          let same_next : next ≡ None = cc in
          let same_text : behind ≡ after = cc in
          few_behind_message (with_body whole owed.message) same_item
          (λ later. few whole after read (subst (λ t. Reads None t items left rest) same_text (subst (λ o. Reads o behind items left rest) same_next later))) on
      by_body (broken fault after) read is =
          let same_item : item ≡ Refuse (fault_of fault) = cc in
          more_at_most messages calls (suc messages) calls (item ∷ items) (omega arith) (omega arith) (few_behind_refusal (fault_of fault) same_item on)

-- ---- Readings

-- The text of a head that was cut has the end of a head.
whole_ends : (text : List ℕ) (n : ℕ) → cut_head text ≡ Whole n → ends_head (take n text) ≡ true
whole_ends text n cut =
    let found = cut-whole ends_head MAX_HEAD_LEN text n cut in
    ap ends_head (sym (take-take n MAX_HEAD_LEN text (omega (arith, found.fits, length-take MAX_HEAD_LEN text)))) ∙ found.passes

line_ends_after : (framing : Framing) (text whole after : List ℕ) → AreLineEnds text → ReadsBody framing text (complete whole after) → AreLineEnds after
line_ends_after framing text whole after ends reads =
    let (own, is, again) = body_owns framing text whole after reads in
    subst AreLineEnds (drop_behind own after (length own) 0 (omega arith))
    (All-drop IsLineEnd (length own) (own ++ after) (subst AreLineEnds is ends))

-- If no body is owed, line ends complete nothing, unless they are refused.
none_of_line_ends : (text : List ℕ) (items : List Item) (left : Option OwedHead) (rest : List ℕ) → AreLineEnds text → Reads None text items left rest
    → AreAtMost 0 0 items
none_of_line_ends text [] left rest ends reads = tt
none_of_line_ends text (item ∷ items) left rest ends (next, behind, starts, on) = by_cut (cut_head (drop_empty_lines text)) starts
  where
    refused : (fault : WireFault) → item ≡ Refuse fault → AreAtMost 0 0 (item ∷ items)
    refused fault is = few_behind_refusal 0 0 item items next behind left rest fault is on

    by_cut : (c : Cut) → StartsAt c (drop_empty_lines text) (gives item next behind) → AreAtMost 0 0 (item ∷ items)
    by_cut (Whole n) start =
        let (fault, is) = ends_are_refused n (drop_empty_lines text) (gives item next behind) start
        (All-take IsLineEnd n (drop_empty_lines text) (line_ends_left text ends)) in
        let same_item : item ≡ Refuse fault = cc in refused fault same_item
    by_cut Endless is = let same_item : item ≡ Refuse HeadTooLarge = cc in refused HeadTooLarge same_item
    by_cut Unended is = absurd (cc)

-- If a body is owed, line ends complete at most one message.
one_of_line_ends : (owed : OwedHead) (text : List ℕ) (items : List Item) (left : Option OwedHead) (rest : List ℕ) → AreLineEnds text
    → Reads (Some owed) text items left rest → AreAtMost 1 0 items
one_of_line_ends owed text [] left rest ends reads = tt
one_of_line_ends owed text (item ∷ items) left rest ends (next, behind, starts, on) =
    few_behind_body 0 0 item items next behind left rest owed text starts
    (λ whole after read later. none_of_line_ends after items left rest (line_ends_after owed.framing text whole after ends read) later) on

-- A text with only line ends after the end of a head completes at most one message and one call to continue.
one_of_such : (text : List ℕ) (items : List Item) (left : Option OwedHead) (rest : List ℕ) → EndsInLineEnds text → Reads None text items left rest
    → AreAtMost 1 1 items
one_of_such text [] left rest ends reads = tt
one_of_such text (item ∷ items) left rest ends (next, behind, starts, on) = by_cut (cut_head (drop_empty_lines text)) refl starts
  where
    refused : (fault : WireFault) → item ≡ Refuse fault → AreAtMost 1 1 (item ∷ items)
    refused fault is = few_behind_refusal 1 1 item items next behind left rest fault is on

    by_head : (n : ℕ) → AreLineEnds (drop n (drop_empty_lines text))
        → BothBehind (drop n (drop_empty_lines text)) (gives item next behind) (drop n (drop_empty_lines text)) (gives item next behind)
        → AreAtMost 1 1 (item ∷ items)
    by_head n line_ends (inl ((fault, is), other)) = let same_item : item ≡ Refuse fault = cc in refused fault same_item
    by_head n line_ends (inr (inl (owed, is, other))) =
        let same_item : item ≡ Continue = cc in
        let same_next : next ≡ Some owed = cc in
        let same_text : behind ≡ drop n (drop_empty_lines text) = cc in
        few_behind_call 1 0 item items next behind left rest same_item
        (λ later. one_of_line_ends owed (drop n (drop_empty_lines text)) items left rest line_ends
        (subst (λ t. Reads (Some owed) t items left rest) same_text (subst (λ o. Reads o behind items left rest) same_next later))) on
    by_head n line_ends (inr (inr (owed, body, other))) =
        few_behind_body 0 1 item items next behind left rest owed (drop n (drop_empty_lines text)) body
        (λ whole after read later. more_at_most 0 0 0 1 items (omega arith) (omega arith)
        (none_of_line_ends after items left rest (line_ends_after owed.framing (drop n (drop_empty_lines text)) whole after line_ends read) later)) on

    by_cut : (c : Cut) → cut_head (drop_empty_lines text) ≡ c → StartsAt c (drop_empty_lines text) (gives item next behind) → AreAtMost 1 1 (item ∷ items)
    by_cut (Whole n) cut start =
        by_head n (ends_so_left text ends n (whole_ends (drop_empty_lines text) n cut))
        (both_behind n (drop_empty_lines text) (gives item next behind) start (drop n (drop_empty_lines text)) (gives item next behind) start.2)
    by_cut Endless cut is = let same_item : item ≡ Refuse HeadTooLarge = cc in refused HeadTooLarge same_item
    by_cut Unended cut is = absurd (cc)

-- An unfinished body, followed by such a text, completes at most two messages and one call to continue.
two_with_body : (owed : OwedHead) (held part : List ℕ) (item : Item) (items : List Item) (next : Option OwedHead) (behind : List ℕ)
    (left : Option OwedHead) (rest : List ℕ) → EndsInLineEnds part → StartsBody owed held awaits → StartsBody owed (held ++ part) (gives item next behind)
    → GoesOn item items next behind left rest → AreAtMost 2 1 (item ∷ items)
two_with_body owed held part item items next behind left rest ends (body, reads, is) starts on = by_body body reads is
  where
    by_body : (b : Body) → ReadsBody owed.framing held b → awaits ≡ after_body owed b → AreAtMost 2 1 (item ∷ items)
    by_body (complete whole after) read same = absurd (cc)
    by_body (broken fault after) read same = absurd (cc)
    by_body unfinished read same =
        few_behind_body 1 1 item items next behind left rest owed (held ++ part) starts
        (λ whole after reads later.
        let (k, last) = body_ends owed.framing held part whole after read reads in
        one_of_such after items left rest (subst EndsInLineEnds (sym last) (ends_so_behind k part ends)) later) on

-- ---- Bytes held

abbrev pub IsHeld : Option OwedHead → List ℕ → Type 0
IsHeld owed rest = (text_of owed rest ≡ rest) × Starts owed rest awaits

pub is_held : (before : Option OwedHead) (stream : List ℕ) (first : List Item) (owed : Option OwedHead) (rest : List ℕ) → Reads before stream first owed rest
    → IsHeld owed rest
is_held before stream [] owed rest (same, is, starts) =
    (ap (text_of owed) is ∙ by_owed before stream owed same ∙ sym is, subst (λ o. Starts o rest awaits) (sym same) starts)
  where
    by_owed : (b : Option OwedHead) (s : List ℕ) (o : Option OwedHead) → o ≡ b → text_of o (text_of b s) ≡ text_of b s
    by_owed None s o is = ap (λ o. text_of o (drop_empty_lines s)) is ∙ drop_empty_lines_twice s
    by_owed (Some head) s o is = ap (λ o. text_of o s) is
is_held before stream (item ∷ items) owed rest (next, behind, starts, on) =
    by_match (is_last item)
    (λ (none, owes, holds). subst (λ o. IsHeld o rest) (sym owes) (subst (IsHeld None) (sym holds) (refl, refl)))
    (λ later. is_held next behind items owed rest later) on

pub part_completes : (owed : Option OwedHead) (held part : List ℕ) (items : List Item) (left : Option OwedHead) (rest : List ℕ) → IsHeld owed held
    → HasLineEndsBehind part → Reads owed (held ++ part) items left rest → AreAtMost 2 1 items
part_completes owed held part [] left rest is_so is reads = tt
part_completes (Some owed) held part (item ∷ items) left rest (whole, awaiting) is (next, behind, starts, on) =
    two_with_body owed held part item items next behind left rest (part_ends_so part is) awaiting starts on
part_completes None held part (item ∷ items) left rest (whole, awaiting) is reads = by_cut (cut_head held) refl awaiting
  where
    by_behind : (n : ℕ) → BothBehind (drop n held) awaits (drop n held ++ part) (gives item reads.0 reads.1) → AreAtMost 2 1 (item ∷ items)
    by_behind n (inl ((fault, is_so), later)) = absurd (cc)
    by_behind n (inr (inl (owed, is_so, later))) = absurd (cc)
    by_behind n (inr (inr (owed, first, second))) =
        two_with_body owed (drop n held) part item items reads.0 reads.1 left rest (part_ends_so part is) first second reads.3

    by_head : (n : ℕ) → cut_head held ≡ Whole n → (start : StartsAt (Whole n) held awaits) → (stays : IsSettled held part) → AreAtMost 2 1 (item ∷ items)
    by_head n cut start stays =
        let at : StartsAt (Whole n) (held ++ part) (gives item reads.0 reads.1) =
        subst (λ c. StartsAt c (held ++ part) (gives item reads.0 reads.1)) (ap (λ t. cut_head (t ++ part)) (sym whole) ∙ stays.same ∙ ap cut_head whole ∙ cut)
        (subst (λ t. Starts None t (gives item reads.0 reads.1)) (stays.behind ∙ ap (λ t. t ++ part) whole) reads.2) in
        let fits : n ≤ length held = (subst (HoldsText held) cut (cut_holds held (cut_head held) refl)).1 in
        let same : at.0 ≡ start.0 =
        ReadsHead-unique (take n held) at.0 start.0 (subst (λ t. ReadsHead t at.0) (take-append-le n held part fits) at.1) start.1 in
        let later = subst (λ j. StartsBehind j (drop n held ++ part) (gives item reads.0 reads.1)) same
        (subst (λ t. StartsBehind at.0 t (gives item reads.0 reads.1)) (drop-append-le n held part fits) at.2) in
        by_behind n (both_behind n held awaits start (drop n held ++ part) (gives item reads.0 reads.1) later)

    by_settled : (n : ℕ) → cut_head held ≡ Whole n → StartsAt (Whole n) held awaits → (cut_head (drop_empty_lines held) ≡ Unended) ⊎ IsSettled held part
        → AreAtMost 2 1 (item ∷ items)
    by_settled n cut start (inl unended) = let not : Whole n ≡ Unended = sym cut ∙ ap cut_head (sym whole) ∙ unended in absurd (cc)
    by_settled n cut start (inr stays) = by_head n cut start stays

    by_cut : (c : Cut) → cut_head held ≡ c → StartsAt c held awaits → AreAtMost 2 1 (item ∷ items)
    by_cut Unended cut start =
        more_at_most 1 1 2 1 (item ∷ items) (omega arith) (omega arith)
        (one_of_such (held ++ part) (item ∷ items) left rest (parts_end_so held part is (cut_unended-fronts ends_head MAX_HEAD_LEN held cut)) reads)
    by_cut Endless cut start = absurd (cc)
    by_cut (Whole n) cut start = by_settled n cut start (settled held part)

-- ---- The counts

few_messages : (messages calls : ℕ) (items : List Item) → AreAtMost messages calls items → count_by is_message items ≤ messages
few_messages messages calls [] few = omega arith
few_messages messages calls (Message message ∷ items) (n, is, few) =
    let one_more : count_by is_message (Message message ∷ items) ≡ 1 + count_by is_message items =
    sum_by-append (λ i. cond (is_message i) 1 0) (Message message ∷ []) items in
    omega (arith, is, one_more, few_messages n calls items few)
few_messages messages calls (Continue ∷ items) (n, is, few) = omega (arith, few_messages messages n items few)
few_messages messages calls (Refuse fault ∷ items) none = subst (λ is. count_by is_message is ≤ messages) (sym none) (omega arith)

pub few_calls : (messages calls : ℕ) (items : List Item) → AreAtMost messages calls items → count_by is_call_to_continue items ≤ calls
few_calls messages calls [] few = omega arith
few_calls messages calls (Message message ∷ items) (n, is, few) = omega (arith, few_calls n calls items few)
few_calls messages calls (Continue ∷ items) (n, is, few) =
    let one_more : count_by is_call_to_continue (Continue ∷ items) ≡ 1 + count_by is_call_to_continue items =
    sum_by-append (λ i. cond (is_call_to_continue i) 1 0) (Continue ∷ []) items in
    omega (arith, is, one_more, few_calls messages n items few)
few_calls messages calls (Refuse fault ∷ items) none = subst (λ is. count_by is_call_to_continue is ≤ calls) (sym none) (omega arith)

-- Apart from the calls to continue, there are no more items than the messages and a refusal.
pub few_in_all : (messages calls : ℕ) (items : List Item) → AreAtMost messages calls items
    → length items ≤ count_by is_call_to_continue items + messages + 1
few_in_all messages calls [] few = omega arith
few_in_all messages calls (Message message ∷ items) (n, is, few) = omega (arith, is, few_in_all n calls items few)
few_in_all messages calls (Continue ∷ items) (n, is, few) =
    let one_more : count_by is_call_to_continue (Continue ∷ items) ≡ 1 + count_by is_call_to_continue items =
    sum_by-append (λ i. cond (is_call_to_continue i) 1 0) (Continue ∷ []) items in
    omega (arith, is, one_more, few_in_all messages n items few)
few_in_all messages calls (Refuse fault ∷ items) none =
    subst (λ is. length (Refuse fault ∷ is) ≤ count_by is_call_to_continue (Refuse fault ∷ is) + messages + 1) (sym none) (omega arith)

refusal_last : (messages calls : ℕ) (items front behind : List Item) (fault : WireFault) → AreAtMost messages calls items
    → items ≡ front ++ Refuse fault ∷ behind → behind ≡ []
refusal_last messages calls [] [] behind fault few is = absurd (cc)
refusal_last messages calls [] (item ∷ front) behind fault few is = absurd (cc)
refusal_last messages calls (Message message ∷ items) [] behind fault few is = absurd (cc)
refusal_last messages calls (Message message ∷ items) (item ∷ front) behind fault (n, so, few) is =
    let later : items ≡ front ++ Refuse fault ∷ behind = cc in refusal_last n calls items front behind fault few later
refusal_last messages calls (Continue ∷ items) [] behind fault few is = absurd (cc)
refusal_last messages calls (Continue ∷ items) (item ∷ front) behind fault (n, so, few) is =
    let later : items ≡ front ++ Refuse fault ∷ behind = cc in refusal_last messages n items front behind fault few later
refusal_last messages calls (Refuse other ∷ items) [] behind fault none is = let same : behind ≡ items = cc in same ∙ none
refusal_last messages calls (Refuse other ∷ items) (item ∷ []) behind fault none is =
    let later : items ≡ Refuse fault ∷ behind = cc in let not : [] ≡ Refuse fault ∷ behind = sym none ∙ later in absurd (cc)
refusal_last messages calls (Refuse other ∷ items) (item ∷ next ∷ front) behind fault none is =
    let later : items ≡ next ∷ front ++ Refuse fault ∷ behind = cc in
    let not : [] ≡ next ∷ front ++ Refuse fault ∷ behind = sym none ∙ later in absurd (cc)

pub are_few : (items : List Item) → AreAtMost 2 1 items → AreFew items
are_few items few = record {
  messages = few_messages 2 1 items few;
  calls = few_calls 2 1 items few;
  refuses_last = λ front behind fault is. refusal_last 2 1 items front behind fault few is;
}

pub parts_complete_little : PartsCompleteLittle
parts_complete_little before stream first owed rest part items left after reads is completes =
    are_few items (part_completes owed rest part items left after (is_held before stream first owed rest reads) is.1 completes)
