-- Readings joined, compared and cut.
use Rattle.std.proofs.Common.{◌≡◌, ℕ, ◌≤◌, Bool, true, false, ◌&&◌, ◌||◌, ◌⊎◌, List, [], ◌∷◌, ◌++◌, length, take, drop, Option, None, Some, refl, sym, ap, ◌∙◌, subst, inl, inr, eqb, arith}
use Rattle.std.specs.Bool.{MatchBool}
use Rattle.std.proofs.lemmas.Bool.{MatchBool-at_false, or_parts, or_left, or_right, or_from}
use Rattle.std.proofs.lemmas.List.{take-append-le, drop-append-le, length-take}
use Rattle.httparse.proofs.GrammarLemmas.{request_unique}
use Rattle.sv_text.specs.declared.front.Cut.{Cut}
use Rattle.sv_text.specs.declared.front.Cut.TheVariants.{Whole, Endless, Unended}
use Rattle.sv_wire.specs.Body.{ReadsBody}
use Rattle.sv_wire.specs.Chunks.{Body, unfinished, complete, broken}
use Rattle.sv_wire.proofs.BodyLemmas.{and_more, ReadsBody-unique, ReadsBody_more, ReadsBody_front}
use Rattle.sv_wire.proofs.BoolLemmas.{MatchBool-from_true, MatchBool-from_false}
use Rattle.sv_text.proofs.FrontLemmas.{Endless-inverse, cut-whole, cut-append}
use Rattle.sv_wire.specs.declared.item.Item.{Item}
use Rattle.sv_wire.specs.declared.item.Item.TheVariants.{Continue, Refuse}
use Rattle.sv_wire.specs.declared.limits.TheConstants.{MAX_HEAD_LEN}
use Rattle.sv_wire.specs.declared.owed_head.OwedHead.{OwedHead}
use Rattle.sv_wire.specs.declared.owed_head.Judgement.{Judgement}
use Rattle.sv_wire.specs.declared.owed_head.Judgement.TheVariants.{Refused, Expecting, Accepted}
use Rattle.sv_wire.specs.declared.wire_fault.WireFault.TheVariants.{HeadTooLarge}
use Rattle.sv_wire.specs.EmptyLines.{drop_empty_lines}
use Rattle.sv_wire.specs.Head.{ends_head, judge}
use Rattle.sv_wire.specs.Items.{is_last, are_ended}
use Rattle.sv_wire.specs.Laws.{ReadingsJoin, ReadingsAreUnique, ReadingsSplitAtACut}
use Rattle.sv_wire.specs.Next.{HoldsText}
use Rattle.sv_wire.specs.Reads.{IsJudged, has_too_many_lines, ReadsHead, cut_head, Start, gives, awaits, after_body, StartsBody, StartsBehind, StartsAt, text_of, Starts, Reads}
use Rattle.sv_wire.proofs.EmptyLinesLemmas.{drop_empty_lines-append, drop_empty_lines_stays}

-- ---- the cut of a head

-- A text of fewer than two bytes does not end as a head does.
ends_head-long : (text : List ℕ) → ends_head text ≡ true → 2 ≤ length text
ends_head-long [] ends = absurd (cc)
ends_head-long (b ∷ []) ends = by_test (eqb 10 b) ends
  where
    by_test : (t : Bool) → ((t && false) || (t && false)) ≡ true → 2 ≤ length (b ∷ [])
    by_test true holds = absurd (cc)
    by_test false holds = absurd (cc)
ends_head-long (b ∷ c ∷ text) ends = omega arith

-- The bytes that are cut from a stream are present.
pub cut_holds : (stream : List ℕ) (c : Cut) → c ≡ cut_head stream → HoldsText stream c
cut_holds stream (Whole n) is =
    let found = cut-whole ends_head MAX_HEAD_LEN stream n (sym is) in
    let long = ends_head-long (take n (take MAX_HEAD_LEN stream)) found.passes in (
      omega (arith, long, length-take n (take MAX_HEAD_LEN stream)),
      omega (arith, found.fits, length-take MAX_HEAD_LEN stream),
      omega (arith, found.fits, length-take MAX_HEAD_LEN stream),
    )
cut_holds stream Endless is = (Endless-inverse MAX_HEAD_LEN stream _ (sym is)).1
cut_holds stream Unended is = tt

holds_long : (stream : List ℕ) (c : Cut) → HoldsText stream c → (c ≡ Unended) ⊎ (2 ≤ length stream)
holds_long stream (Whole n) holds = inr (omega (arith, holds.0, holds.1))
holds_long stream Endless holds = inr (omega (arith, holds))
holds_long stream Unended holds = inl refl

-- ---- the start of a text, when more bytes follow

-- The start of a text, with more bytes after it.
abbrev pub start_more : Start → List ℕ → Start
start_more (gives item next rest) more = gives item next (rest ++ more)
start_more awaits more = awaits

-- A start does not change, unless more is awaited.
abbrev Stays : Start → Type 0 → Type 0
Stays start later = (start ≡ awaits) ⊎ later

-- A start of a longer text is one of the shorter, or the shorter awaits more.
abbrev Fronts : (Start → Type 0) → List ℕ → Start → Type 0
Fronts begins more start = (front : Start) × begins front × ((front ≡ awaits) ⊎ (start ≡ start_more front more))

after_body_more : (owed : OwedHead) (body : Body) (more : List ℕ) → start_more (after_body owed body) more ≡ after_body owed (and_more body more)
after_body_more owed unfinished more = refl
after_body_more owed (complete bytes rest) more = refl
after_body_more owed (broken fault rest) more = refl

StartsBody_more : (owed : OwedHead) (text more : List ℕ) (start : Start) → StartsBody owed text start
    → Stays start (StartsBody owed (text ++ more) (start_more start more))
StartsBody_more owed text more start starts = by_body (ReadsBody_more owed.framing text more starts.0 starts.1)
  where
    by_body : (starts.0 ≡ unfinished) ⊎ ReadsBody owed.framing (text ++ more) (and_more starts.0 more)
        → Stays start (StartsBody owed (text ++ more) (start_more start more))
    by_body (inl none) = inl (starts.2 ∙ ap (after_body owed) none)
    by_body (inr reads) = inr (and_more starts.0 more, reads, ap (λ s. start_more s more) starts.2 ∙ after_body_more owed starts.0 more)

StartsBody_front : (owed : OwedHead) (text more : List ℕ) (start : Start) → StartsBody owed (text ++ more) start
    → Fronts (StartsBody owed text) more start
StartsBody_front owed text more start starts =
    let found = ReadsBody_front owed.framing text more starts.0 starts.1 in
    (after_body owed found.0, (found.0, found.1, refl), by_body found.0 found.2)
  where
    by_body : (front : Body) → (front ≡ unfinished) ⊎ (starts.0 ≡ and_more front more)
        → (after_body owed front ≡ awaits) ⊎ (start ≡ start_more (after_body owed front) more)
    by_body front (inl none) = inl (ap (after_body owed) none)
    by_body front (inr same) = inr (starts.2 ∙ ap (after_body owed) same ∙ sym (after_body_more owed front more))

StartsBody-unique : (owed : OwedHead) (text : List ℕ) (start other : Start) → StartsBody owed text start → StartsBody owed text other
    → start ≡ other
StartsBody-unique owed text start other a b =
    a.2 ∙ ap (after_body owed) (ReadsBody-unique owed.framing text a.0 b.0 a.1 b.1) ∙ sym b.2

StartsBehind_more : (judgement : Judgement) (text more : List ℕ) (start : Start) → StartsBehind judgement text start
    → Stays start (StartsBehind judgement (text ++ more) (start_more start more))
StartsBehind_more (Refused fault) text more start starts = inr (ap (λ s. start_more s more) starts)
StartsBehind_more (Expecting owed) text more start starts = inr (ap (λ s. start_more s more) starts)
StartsBehind_more (Accepted owed) text more start starts = StartsBody_more owed text more start starts

StartsBehind_front : (judgement : Judgement) (text more : List ℕ) (start : Start) → StartsBehind judgement (text ++ more) start
    → Fronts (StartsBehind judgement text) more start
StartsBehind_front (Refused fault) text more start starts = (gives (Refuse fault) None text, refl, inr starts)
StartsBehind_front (Expecting owed) text more start starts = (gives Continue (Some owed) text, refl, inr starts)
StartsBehind_front (Accepted owed) text more start starts = StartsBody_front owed text more start starts

StartsBehind-unique : (judgement : Judgement) (text : List ℕ) (start other : Start) → StartsBehind judgement text start
    → StartsBehind judgement text other → start ≡ other
StartsBehind-unique (Refused fault) text start other a b = a ∙ sym b
StartsBehind-unique (Expecting owed) text start other a b = a ∙ sym b
StartsBehind-unique (Accepted owed) text start other a b = StartsBody-unique owed text start other a b

StartsAt_more : (c : Cut) (text more : List ℕ) (start : Start) → HoldsText text c → StartsAt c text start
    → Stays start (StartsAt c (text ++ more) (start_more start more))
StartsAt_more (Whole n) text more start holds starts = by_behind (StartsBehind_more starts.0 (drop n text) more start starts.2)
  where
    by_behind : Stays start (StartsBehind starts.0 (drop n text ++ more) (start_more start more))
        → Stays start (StartsAt (Whole n) (text ++ more) (start_more start more))
    by_behind (inl none) = inl none
    by_behind (inr later) = inr (
      starts.0,
      subst (λ t. ReadsHead t starts.0) (sym (take-append-le n text more holds.1)) starts.1,
      subst (λ t. StartsBehind starts.0 t (start_more start more)) (sym (drop-append-le n text more holds.1)) later,
    )
StartsAt_more Endless text more start holds starts =
    inr (ap (λ s. start_more s more) starts ∙ ap (gives (Refuse HeadTooLarge) None) (sym (drop-append-le MAX_HEAD_LEN text more holds)))
StartsAt_more Unended text more start holds starts = inl starts

StartsAt_front : (c : Cut) (text more : List ℕ) (start : Start) → HoldsText text c → (c ≡ Unended) ⊎ StartsAt c (text ++ more) start
    → Fronts (StartsAt c text) more start
StartsAt_front (Whole n) text more start holds (inl none) = absurd (cc)
StartsAt_front (Whole n) text more start holds (inr starts) =
    let found = StartsBehind_front starts.0 (drop n text) more start
    (subst (λ t. StartsBehind starts.0 t start) (drop-append-le n text more holds.1) starts.2) in
    (found.0, (starts.0, subst (λ t. ReadsHead t starts.0) (take-append-le n text more holds.1) starts.1, found.1), found.2)
StartsAt_front Endless text more start holds (inl none) = absurd (cc)
StartsAt_front Endless text more start holds (inr starts) = (
  gives (Refuse HeadTooLarge) None (drop MAX_HEAD_LEN text),
  refl,
  inr (starts ∙ ap (gives (Refuse HeadTooLarge) None) (drop-append-le MAX_HEAD_LEN text more holds)),
)
StartsAt_front Unended text more start holds starts = (awaits, refl, inl refl)

-- ---- one start

IsJudged-unique : (text : List ℕ) (judgement other : Judgement) → IsJudged text judgement → IsJudged text other → judgement ≡ other
IsJudged-unique text judgement other (inl a) (inl b) = a.2 ∙ ap judge (request_unique text a.0 b.0 [] [] a.1 b.1).0 ∙ sym b.2
IsJudged-unique text judgement other (inl a) (inr b) = absurd (b.0 a.0 a.1)
IsJudged-unique text judgement other (inr a) (inl b) = absurd (a.0 b.0 b.1)
IsJudged-unique text judgement other (inr a) (inr b) = a.1 ∙ sym b.1

pub ReadsHead-unique : (text : List ℕ) (judgement other : Judgement) → ReadsHead text judgement → ReadsHead text other → judgement ≡ other
ReadsHead-unique text judgement other = by_lines (has_too_many_lines text)
  where
    by_lines : (t : Bool) → MatchBool t (judgement ≡ Refused HeadTooLarge) (IsJudged text judgement)
        → MatchBool t (other ≡ Refused HeadTooLarge) (IsJudged text other) → judgement ≡ other
    by_lines true a b = a ∙ sym b
    by_lines false a b = IsJudged-unique text judgement other a b

StartsAt-unique : (c : Cut) (text : List ℕ) (start other : Start) → StartsAt c text start → StartsAt c text other → start ≡ other
StartsAt-unique (Whole n) text start other a b =
    StartsBehind-unique a.0 (drop n text) start other a.2
    (subst (λ v. StartsBehind v (drop n text) other) (sym (ReadsHead-unique (take n text) a.0 b.0 a.1 b.1)) b.2)
StartsAt-unique Endless text start other a b = a ∙ sym b
StartsAt-unique Unended text start other a b = a ∙ sym b

pub Starts-unique : (owed : Option OwedHead) (text : List ℕ) (start other : Start) → Starts owed text start → Starts owed text other
    → start ≡ other
Starts-unique None text start other a b = StartsAt-unique (cut_head text) text start other a b
Starts-unique (Some owed) text start other a b = StartsBody-unique owed text start other a b

-- ---- the start of a stream, when more bytes follow

-- More bytes change neither the empty lines at the start of the stream nor the cut after them.
pub record IsSettled (stream more : List ℕ) : Type 0 where
  pub behind : drop_empty_lines (stream ++ more) ≡ drop_empty_lines stream ++ more
  pub same : cut_head (drop_empty_lines stream ++ more) ≡ cut_head (drop_empty_lines stream)

pub settled : (stream more : List ℕ) → (cut_head (drop_empty_lines stream) ≡ Unended) ⊎ IsSettled stream more
settled stream more =
    by_cut (holds_long (drop_empty_lines stream) _ (cut_holds (drop_empty_lines stream) _ refl))
    (cut-append ends_head MAX_HEAD_LEN (drop_empty_lines stream) more _ refl)
  where
    by_cut : (cut_head (drop_empty_lines stream) ≡ Unended) ⊎ (2 ≤ length (drop_empty_lines stream))
        → (cut_head (drop_empty_lines stream) ≡ Unended) ⊎ (cut_head (drop_empty_lines stream ++ more) ≡ cut_head (drop_empty_lines stream))
        → (cut_head (drop_empty_lines stream) ≡ Unended) ⊎ IsSettled stream more
    by_cut (inl unended) same = inl unended
    by_cut (inr long) (inl unended) = inl unended
    by_cut (inr long) (inr same) = inr (record { behind = drop_empty_lines_stays stream more long; same = same })

module _ (stream more : List ℕ) where
  at_settled : IsSettled stream more → (start : Start)
      → ◌≡◌ {A = Type 0} (StartsAt (cut_head (drop_empty_lines stream)) (drop_empty_lines stream ++ more) start)
      (Starts None (drop_empty_lines (stream ++ more)) start)
  at_settled stays start =
      ap (λ c. StartsAt c (drop_empty_lines stream ++ more) start) (sym stays.same)
      ∙ ap (λ text. StartsAt (cut_head text) text start) (sym stays.behind)

  head_more : (start : Start) → Starts None (drop_empty_lines stream) start
      → Stays start (Starts None (drop_empty_lines (stream ++ more)) (start_more start more))
  head_more start starts = by_cut (settled stream more)
    where
      by_start : IsSettled stream more
          → Stays start (StartsAt (cut_head (drop_empty_lines stream)) (drop_empty_lines stream ++ more) (start_more start more))
          → Stays start (Starts None (drop_empty_lines (stream ++ more)) (start_more start more))
      by_start stays (inl none) = inl none
      by_start stays (inr later) = inr (subst (λ (X : Type 0). X) (at_settled stays (start_more start more)) later)

      by_cut : (cut_head (drop_empty_lines stream) ≡ Unended) ⊎ IsSettled stream more
          → Stays start (Starts None (drop_empty_lines (stream ++ more)) (start_more start more))
      by_cut (inl unended) = inl (subst (λ c. StartsAt c (drop_empty_lines stream) start) unended starts)
      by_cut (inr stays) =
          by_start stays (StartsAt_more (cut_head (drop_empty_lines stream)) (drop_empty_lines stream) more start (cut_holds (drop_empty_lines stream) _ refl) starts)

  head_front : (start : Start) → Starts None (drop_empty_lines (stream ++ more)) start → Fronts (Starts None (drop_empty_lines stream)) more start
  head_front start starts =
      StartsAt_front (cut_head (drop_empty_lines stream)) (drop_empty_lines stream) more start (cut_holds (drop_empty_lines stream) _ refl)
      (by_cut (settled stream more))
    where
      by_cut : (cut_head (drop_empty_lines stream) ≡ Unended) ⊎ IsSettled stream more
          → (cut_head (drop_empty_lines stream) ≡ Unended) ⊎ StartsAt (cut_head (drop_empty_lines stream)) (drop_empty_lines stream ++ more) start
      by_cut (inl unended) = inl unended
      by_cut (inr stays) = inr (subst (λ (X : Type 0). X) (sym (at_settled stays start)) starts)

-- The first item of a stream does not change when bytes follow.
pub gives_more : (owed : Option OwedHead) (stream more : List ℕ) (item : Item) (next : Option OwedHead) (behind : List ℕ)
    → Starts owed (text_of owed stream) (gives item next behind)
    → Starts owed (text_of owed (stream ++ more)) (gives item next (behind ++ more))
gives_more None stream more item next behind starts = by_start (head_more stream more (gives item next behind) starts)
  where
    by_start : Stays (gives item next behind) (Starts None (drop_empty_lines (stream ++ more)) (gives item next (behind ++ more)))
        → Starts None (drop_empty_lines (stream ++ more)) (gives item next (behind ++ more))
    by_start (inl none) = absurd (cc)
    by_start (inr later) = later
gives_more (Some owed) stream more item next behind starts = by_start (StartsBody_more owed stream more (gives item next behind) starts)
  where
    by_start : Stays (gives item next behind) (StartsBody owed (stream ++ more) (gives item next (behind ++ more)))
        → StartsBody owed (stream ++ more) (gives item next (behind ++ more))
    by_start (inl none) = absurd (cc)
    by_start (inr later) = later

starts_front : (owed : Option OwedHead) (stream more : List ℕ) (start : Start) → Starts owed (text_of owed (stream ++ more)) start
    → Fronts (Starts owed (text_of owed stream)) more start
starts_front None stream more start starts = head_front stream more start starts
starts_front (Some owed) stream more start starts = StartsBody_front owed stream more start starts

-- ---- readings

text_of-append : (owed : Option OwedHead) (stream more : List ℕ) → text_of owed (text_of owed stream ++ more) ≡ text_of owed (stream ++ more)
text_of-append None stream more = drop_empty_lines-append stream more
text_of-append (Some owed) stream more = refl

-- A reading does not depend on the empty lines at the start of the stream.
pub Reads-behind : (owed : Option OwedHead) (stream other : List ℕ) (items : List Item) (left : Option OwedHead) (rest : List ℕ)
    → text_of owed stream ≡ text_of owed other → Reads owed stream items left rest → Reads owed other items left rest
Reads-behind owed stream other [] left rest same reads = (reads.0, reads.1 ∙ same, reads.2)
Reads-behind owed stream other (item ∷ items) left rest same reads =
    (reads.0, reads.1, subst (λ text. Starts owed text (gives item reads.0 reads.1)) same reads.2, reads.3)

pub readings_join : ReadingsJoin
readings_join owed first second [] more next between left rest goes_on reads later =
    Reads-behind owed (between ++ second) (first ++ second) more left rest
    (ap (λ text. text_of owed (text ++ second)) reads.1 ∙ text_of-append owed first second)
    (subst (λ o. Reads o (between ++ second) more left rest) reads.0 later)
readings_join owed first second (item ∷ items) more next between left rest goes_on reads later =
    let on = or_parts (is_last item) (are_ended items) goes_on in
    let behind = MatchBool-at_false _ _ on.0 reads.3 in (
      reads.0,
      reads.1 ++ second,
      gives_more owed first second item reads.0 reads.1 reads.2,
      MatchBool-from_false (is_last item) _ _ on.0 (readings_join reads.0 reads.1 second items more next between left rest on.1 behind later),
    )

-- The items after one that both readings begin with.
same_behind : (t : Bool) (items others : List Item) (left other_left : Option OwedHead) (rest other_rest : List ℕ) (P Q : Type 0)
    → (P → Q → (items ≡ others) × (left ≡ other_left) × (rest ≡ other_rest))
    → MatchBool t ((items ≡ []) × (left ≡ None) × (rest ≡ [])) P → MatchBool t ((others ≡ []) × (other_left ≡ None) × (other_rest ≡ [])) Q
    → (items ≡ others) × (left ≡ other_left) × (rest ≡ other_rest)
same_behind true items others left other_left rest other_rest P Q later a b = (a.0 ∙ sym b.0, a.1 ∙ sym b.1, a.2 ∙ sym b.2)
same_behind false items others left other_left rest other_rest P Q later a b = later a b

awaits_or_gives : (owed : Option OwedHead) (text : List ℕ) (item : Item) (next : Option OwedHead) (behind : List ℕ)
    → Starts owed text awaits → Starts owed text (gives item next behind) → ⊥
awaits_or_gives owed text item next behind a b = let same = Starts-unique owed text awaits (gives item next behind) a b in absurd (cc)

pub readings_are_unique : ReadingsAreUnique
readings_are_unique owed stream [] [] left rest other_left other_rest a b = (refl, a.0 ∙ sym b.0, a.1 ∙ sym b.1)
readings_are_unique owed stream [] (other ∷ others) left rest other_left other_rest a b =
    absurd (awaits_or_gives owed (text_of owed stream) other b.0 b.1 (subst (λ text. Starts owed text awaits) a.1 a.2) b.2)
readings_are_unique owed stream (item ∷ items) [] left rest other_left other_rest a b =
    absurd (awaits_or_gives owed (text_of owed stream) item a.0 a.1 (subst (λ text. Starts owed text awaits) b.1 b.2) a.2)
readings_are_unique owed stream (item ∷ items) (other ∷ others) left rest other_left other_rest a b =
    let same = Starts-unique owed (text_of owed stream) (gives item a.0 a.1) (gives other b.0 b.1) a.2 b.2 in
    let same_item : other ≡ item = cc in
    let same_next : b.0 ≡ a.0 = cc in
    let same_text : b.1 ≡ a.1 = cc in
    let reads : MatchBool (is_last item) ((others ≡ []) × (other_left ≡ None) × (other_rest ≡ [])) (Reads a.0 a.1 others other_left other_rest) =
    subst (λ i. MatchBool (is_last i) ((others ≡ []) × (other_left ≡ None) × (other_rest ≡ [])) (Reads a.0 a.1 others other_left other_rest)) same_item
    (subst (λ o. MatchBool (is_last other) ((others ≡ []) × (other_left ≡ None) × (other_rest ≡ [])) (Reads o a.1 others other_left other_rest)) same_next
    (subst (λ t. MatchBool (is_last other) ((others ≡ []) × (other_left ≡ None) × (other_rest ≡ [])) (Reads b.0 t others other_left other_rest)) same_text b.3)) in
    let behind = same_behind (is_last item) items others left other_left rest other_rest (Reads a.0 a.1 items left rest) (Reads a.0 a.1 others other_left other_rest)
    (readings_are_unique a.0 a.1 items others left rest other_left other_rest) a.3 reads in
    (λ i. sym same_item i ∷ behind.0 i, behind.1, behind.2)

-- ---- cuts

-- A reading of both parts is one of the first part that has ended, or one that continues.
abbrev Splits : Option OwedHead → List ℕ → List ℕ → List Item → Option OwedHead → List ℕ → Type 0
Splits owed first second items left rest =
    ((are_ended items ≡ true) × Reads owed first items left rest)
    ⊎ ((front : List Item) × (more : List Item) × (next : Option OwedHead) × (between : List ℕ)
    × (items ≡ front ++ more) × (are_ended front ≡ false)
    × Reads owed first front next between × Reads next (between ++ second) more left rest)

-- If the first part begins with no complete item, all items come later.
splits_later : (owed : Option OwedHead) (first second : List ℕ) (items : List Item) (left : Option OwedHead) (rest : List ℕ)
    → Starts owed (text_of owed first) awaits → Reads owed (first ++ second) items left rest → Splits owed first second items left rest
splits_later owed first second items left rest starts reads =
    inr (
      [],
      items,
      owed,
      text_of owed first,
      refl,
      refl,
      (refl, refl, starts),
      Reads-behind owed (first ++ second) (text_of owed first ++ second) items left rest (sym (text_of-append owed first second)) reads,
    )

-- The first item ends the reading.
splits_ended : (owed : Option OwedHead) (first second : List ℕ) (item : Item) (items : List Item) (next : Option OwedHead) (behind : List ℕ)
    (left : Option OwedHead) (rest : List ℕ) → is_last item ≡ true
    → Starts owed (text_of owed first) (gives item next behind) → (items ≡ []) × (left ≡ None) × (rest ≡ [])
    → Splits owed first second (item ∷ items) left rest
splits_ended owed first second item items next behind left rest last starts none =
    inl (or_left (is_last item) (are_ended items) last, (next, behind, starts, MatchBool-from_true (is_last item) _ _ last none))

-- The first item does not end the reading.
splits_on : (owed : Option OwedHead) (first second : List ℕ) (item : Item) (items : List Item) (next : Option OwedHead) (behind : List ℕ)
    (left : Option OwedHead) (rest : List ℕ) → is_last item ≡ false
    → Starts owed (text_of owed first) (gives item next behind) → Splits next behind second items left rest
    → Splits owed first second (item ∷ items) left rest
splits_on owed first second item items next behind left rest goes_on starts (inl ended) =
    inl (
      or_right (is_last item) (are_ended items) ended.0,
      (next, behind, starts, MatchBool-from_false (is_last item) _ _ goes_on ended.1),
    )
splits_on owed first second item items next behind left rest goes_on starts (inr later) =
    inr (
      item ∷ later.0,
      later.1,
      later.2,
      later.3,
      ap (λ xs. item ∷ xs) later.4,
      or_from (is_last item) (are_ended later.0) goes_on later.5,
      (next, behind, starts, MatchBool-from_false (is_last item) _ _ goes_on later.6),
      later.7,
    )

-- The cases of the first item of both parts.
splits_after : (owed : Option OwedHead) (first second : List ℕ) (item : Item) (items : List Item) (next : Option OwedHead) (after : List ℕ)
    (left : Option OwedHead) (rest : List ℕ)
    → ((behind : List ℕ) → Reads next (behind ++ second) items left rest → Splits next behind second items left rest)
    → Starts owed (text_of owed (first ++ second)) (gives item next after)
    → MatchBool (is_last item) ((items ≡ []) × (left ≡ None) × (rest ≡ [])) (Reads next after items left rest)
    → Splits owed first second (item ∷ items) left rest
splits_after owed first second item items next after left rest later starts reads =
    let found = starts_front owed first second (gives item next after) starts in by_front found.0 found.1 found.2
  where
    by_last : (behind : List ℕ) → Starts owed (text_of owed first) (gives item next behind) → (t : Bool) → is_last item ≡ t
        → MatchBool t ((items ≡ []) × (left ≡ None) × (rest ≡ [])) (Reads next (behind ++ second) items left rest)
        → Splits owed first second (item ∷ items) left rest
    by_last behind here true last none = splits_ended owed first second item items next behind left rest last here none
    by_last behind here false goes_on more = splits_on owed first second item items next behind left rest goes_on here (later behind more)

    by_front : (front : Start) → Starts owed (text_of owed first) front
        → (front ≡ awaits) ⊎ (gives item next after ≡ start_more front second)
        → Splits owed first second (item ∷ items) left rest
    by_front front here (inl none) =
        splits_later owed first second (item ∷ items) left rest (subst (λ s. Starts owed (text_of owed first) s) none here) (next, after, starts, reads)
    by_front awaits here (inr same) = absurd (cc)
    by_front (gives front_item front_next behind) here (inr same) =
        let same_item : front_item ≡ item = cc in
        let same_next : front_next ≡ next = cc in
        let same_text : after ≡ behind ++ second = cc in
        by_last behind
        (subst (λ i. Starts owed (text_of owed first) (gives i next behind)) same_item
        (subst (λ o. Starts owed (text_of owed first) (gives front_item o behind)) same_next here))
        (is_last item) refl
        (subst (λ t. MatchBool (is_last item) ((items ≡ []) × (left ≡ None) × (rest ≡ [])) (Reads next t items left rest)) same_text reads)

pub readings_split_at_a_cut : ReadingsSplitAtACut
readings_split_at_a_cut owed first second [] left rest reads =
    let found = starts_front owed first second awaits (subst (λ text. Starts owed text awaits) reads.1 reads.2) in
    splits_later owed first second [] left rest (by_front found.0 found.1 found.2) reads
  where
    by_front : (front : Start) → Starts owed (text_of owed first) front → (front ≡ awaits) ⊎ (awaits ≡ start_more front second)
        → Starts owed (text_of owed first) awaits
    by_front front here (inl none) = subst (λ s. Starts owed (text_of owed first) s) none here
    by_front awaits here (inr same) = here
    by_front (gives item next behind) here (inr same) = absurd (cc)
readings_split_at_a_cut owed first second (item ∷ items) left rest reads =
    splits_after owed first second item items reads.0 reads.1 left rest
    (λ behind. readings_split_at_a_cut reads.0 behind second items left rest) reads.2 reads.3
