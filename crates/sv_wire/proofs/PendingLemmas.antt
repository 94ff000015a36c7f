-- A body that is being read, and the start of its stream.
use Rattle.std.proofs.Common.{◌≡◌, ◌==◌, ℕ, zero, suc, ◌+◌, ◌-◌, ◌≤◌, Bool, true, false, ◌⊎◌, List, [], ◌∷◌, ◌++◌, length, take, drop, None, Some, refl, sym, ap, ◌∙◌, subst, inl, inr, cond, arith, Result, Ok, Err}
use Rattle.std.specs.Bool.{MatchBool}
use Rattle.std.specs.Result.{IfOk}
use Rattle.std.proofs.lemmas.Bool.{le-ltb, ltb-false}
use Rattle.std.proofs.lemmas.List.{append_assoc, append-nil, take-append-le, drop-append-le, length-take, length-drop, take_all, drop_all, drop-drop, take-append-drop, take-take}
use Rattle.sv_wire.specs.declared.body_reader.Framing.{Framing}
use Rattle.sv_wire.specs.declared.body_reader.Framing.TheVariants.{Length, Chunked}
use Rattle.sv_wire.specs.declared.body_reader.BodyEnd.{BodyEnd}
use Rattle.sv_wire.specs.declared.body_reader.BodyEnd.TheVariants.{Complete, Broken}
use Rattle.sv_wire.specs.declared.body_reader.Progress.TheVariants.{Awaits, Ended}
use Rattle.sv_text.specs.declared.front.Cut.TheVariants.{Whole, Endless, Unended}
use Rattle.sv_wire.specs.Body.{Awaited, ReadsBody}
use Rattle.sv_wire.specs.Chunks.{Body, unfinished, complete}
use Rattle.sv_text.specs.Front.{cut_at}
use Rattle.sv_wire.specs.Progress.{ended, ReadsOn}
use Rattle.sv_text.proofs.FrontLemmas.{cut-whole, shortest_front_some}
use Rattle.sv_wire.specs.declared.item.Item.{Item}
use Rattle.sv_wire.specs.declared.item.Item.TheVariants.{Continue, Refuse}
use Rattle.sv_wire.specs.declared.limits.TheConstants.{MAX_HEAD_LEN}
use Rattle.sv_wire.specs.declared.owed_head.OwedHead.{OwedHead}
use Rattle.sv_wire.specs.declared.owed_head.Judgement.{Judgement}
use Rattle.sv_wire.specs.declared.owed_head.Judgement.TheVariants.{Refused, Expecting, Accepted}
use Rattle.sv_wire.specs.declared.pending_message.Pending.{Pending}
use Rattle.sv_wire.specs.declared.read_items.Next.{Next}
use Rattle.sv_wire.specs.declared.read_items.Next.TheVariants.{Found, AwaitsHead, AwaitsBody}
use Rattle.sv_wire.specs.declared.wire_fault.WireFault.{WireFault}
use Rattle.sv_wire.specs.declared.wire_fault.WireFault.TheVariants.{HeadTooLarge}
use Rattle.sv_wire.specs.EmptyLines.{drop_empty_lines}
use Rattle.sv_wire.specs.Inbox.{awaited_after, awaited_within}
use Rattle.sv_wire.specs.declared.inbox.Awaited.TheVariants as awaited
use Rattle.sv_wire.specs.Head.{ends_head, has_body}
use Rattle.sv_wire.specs.Next.{HoldsText, StartsNext, ComesNext, IsHeadAt}
use Rattle.sv_wire.specs.Pending.{IsHeadOf, owed_by, rest_of, IsSound, Begins, ReadsPiece}
use Rattle.sv_wire.specs.Reads.{Start, gives, awaits, ReadsHead, cut_head, item_of, after_body, StartsBody, StartsBehind, StartsAt, text_of, Starts}
use Rattle.sv_wire.proofs.EmptyLinesLemmas.{drop_empty_lines_twice, drop_empty_lines_front}
use Rattle.sv_wire.proofs.ReadsLemmas.{IsSettled, settled}

-- ---- a body after the bytes received

-- A head, and the text after it.
head_before : (head more : List ℕ) (owed : OwedHead) → IsHeadOf head owed
    → (drop_empty_lines (head ++ more) ≡ head ++ more) × (cut_head (head ++ more) ≡ Whole (length head))
head_before head more owed is = by_cut (settled head more)
  where
    by_cut : (cut_head (drop_empty_lines head) ≡ Unended) ⊎ IsSettled head more
        → (drop_empty_lines (head ++ more) ≡ head ++ more) × (cut_head (head ++ more) ≡ Whole (length head))
    by_cut (inl unended) = let same = sym is.whole ∙ ap cut_head (sym is.behind) ∙ unended in absurd (cc)
    by_cut (inr stays) = (
      stays.behind ∙ ap (λ t. t ++ more) is.behind,
      ap (λ t. cut_head (t ++ more)) (sym is.behind) ∙ stays.same ∙ ap cut_head is.behind ∙ is.whole,
    )

-- A body that is awaited, whether it was asked for or not.
module _ (owed : OwedHead) (head came stream : List ℕ) where
  pub text_behind : (asked : Bool) → MatchBool asked (head ≡ []) (IsHeadOf head owed)
      → head ++ (came ++ stream) ≡ text_of (cond asked (Some owed) None) ((head ++ came) ++ stream)
  text_behind true none = sym (append_assoc head came stream)
  text_behind false is =
      sym ((head_before head (came ++ stream) owed is).0) ∙ ap drop_empty_lines (sym (append_assoc head came stream))

  pub body_behind : (asked : Bool) (framing : Framing) (body : Body) → framing ≡ owed.framing
      → MatchBool asked (head ≡ []) (IsHeadOf head owed) → ReadsBody framing (came ++ stream) body
      → Starts (cond asked (Some owed) None) (text_of (cond asked (Some owed) None) ((head ++ came) ++ stream)) (after_body owed body)
  body_behind true framing body same none reads = (
    body,
    subst (λ t. ReadsBody owed.framing t body) (ap (λ h. h ++ (came ++ stream)) (sym none) ∙ sym (append_assoc head came stream))
        (subst (λ f. ReadsBody f (came ++ stream) body) same reads),
    refl,
  )
  body_behind false framing body same is reads =
      let before = head_before head (came ++ stream) owed is in
      subst (λ t. StartsAt (cut_head t) t (after_body owed body)) (text_behind false is)
      (subst (λ c. StartsAt c (head ++ (came ++ stream)) (after_body owed body)) (sym before.1) (
        Accepted owed,
        subst (λ t. ReadsHead t (Accepted owed))
            (sym (take-append-le (length head) head (came ++ stream) (omega arith) ∙ take_all (length head) head (omega arith))) is.reads,
        subst (λ t. StartsBody owed t (after_body owed body))
            (sym (drop-append-le (length head) head (came ++ stream) (omega arith) ∙ ap (λ t. t ++ (came ++ stream)) (drop_all (length head) head (omega arith))))
            (body, subst (λ f. ReadsBody f (came ++ stream) body) same reads, refl),
      ))

module _ (pending : Pending) (stream : List ℕ) (at : ℕ) (inside : at ≤ length stream) (sound : IsSound pending) where
  starts : (body : Body) → ReadsBody pending.reader.framing (pending.reader.came ++ drop at stream) body
      → StartsNext (Some pending) (drop at stream) (after_body pending.owed body)
  starts body reads =
      body_behind pending.owed pending.head.bytes pending.reader.came (drop at stream) pending.is_asked pending.reader.framing body sound.0 sound.1 reads

  pub body_ended : (end : BodyEnd) (len : ℕ) (item : Item) → item ≡ item_of pending.owed end
      → (after : Awaited) → ReadsOn pending.reader (drop at stream) (Ended end len) after
      → ComesNext (Some pending) stream at (Found item None (at + len))
  body_ended end len item is after reads =
      let fits : at + len ≤ length stream = omega (arith, inside, reads.0, length-drop at stream) in (
        omega arith,
        fits,
        tt,
        omega (arith, inside, fits),
        subst (λ i. StartsNext (Some pending) (drop at stream) (gives i None (drop (at + len) stream))) (sym is)
            (subst (λ t. StartsNext (Some pending) (drop at stream) (gives (item_of pending.owed end) None t)) (drop-drop len at stream)
            (subst (StartsNext (Some pending) (drop at stream)) (by_end end (drop len (drop at stream)))
            (starts (ended end (drop len (drop at stream))) reads.1))),
      )
    where
      by_end : (e : BodyEnd) (rest : List ℕ) → after_body pending.owed (ended e rest) ≡ gives (item_of pending.owed e) None rest
      by_end (Complete bytes) rest = refl
      by_end (Broken fault) rest = refl

  pub body_awaits : (after : Pending) → ReadsPiece pending (drop at stream) Awaits after → ComesNext (Some pending) stream at (AwaitsBody after)
  body_awaits after reads = subst (λ p. ComesNext (Some pending) stream at (AwaitsBody p)) (sym reads.1) (
    (ap (λ (a : Awaited). a.framing) reads.0.0 ∙ sound.0, sound.1),
    refl,
    ap (λ (a : Awaited). pending.head.bytes ++ a.came) reads.0.0
        ∙ text_behind pending.owed pending.head.bytes pending.reader.came (drop at stream) pending.is_asked sound.1,
    starts unfinished reads.0.1,
  )

-- ---- a head at a place

-- The text of a head is a head.
cut_front : (text : List ℕ) (n : ℕ) → cut_head text ≡ Whole n → cut_head (take n text) ≡ Whole n
cut_front text n is =
    let found = cut-whole ends_head MAX_HEAD_LEN text n is in
    let fits : n ≤ MAX_HEAD_LEN = omega (arith, found.fits, length-take MAX_HEAD_LEN text) in
    let inside : n ≤ length text = omega (arith, found.fits, length-take MAX_HEAD_LEN text) in
    let whole : take MAX_HEAD_LEN (take n text) ≡ take n text = take_all MAX_HEAD_LEN (take n text) (omega (arith, fits, length-take n text)) in
    let front : (k : ℕ) → k ≤ n → take k (take MAX_HEAD_LEN (take n text)) ≡ take k (take MAX_HEAD_LEN text) =
    λ k below. ap (take k) whole ∙ take-take k n text below ∙ sym (take-take k MAX_HEAD_LEN text (omega (arith, below, fits))) in
    ap (cut_at MAX_HEAD_LEN (take n text)) (shortest_front_some ends_head (take MAX_HEAD_LEN (take n text)) n (record {
      fits = omega (arith, ap length whole, length-take n text, inside);
      passes = ap ends_head (front n (omega arith)) ∙ found.passes;
      first = λ k below. ap ends_head (front k (omega (arith, below))) ∙ found.first k below;
    }))

-- A body without bytes is complete at once.
no_body : (framing : Framing) (text : List ℕ) → has_body framing ≡ false → ReadsBody framing text (complete [] text)
no_body (Length zero) text none =
    sym (ap (λ t. cond t unfinished (complete (take 0 text) (drop 0 text))) (le-ltb _ _ (omega arith)))
no_body (Length (suc count)) text none = absurd (omega (arith, ltb-false 0 (suc count) none))
no_body Chunked text none = absurd (cc)

module _ (stream : List ℕ) (start end : ℕ) (judgement : Judgement) (order : start ≤ end) (within : end ≤ length stream)
    (head : IsHeadAt stream start end judgement) where
  rest_at : drop (end - start) (drop start stream) ≡ drop end stream
  rest_at = drop-drop (end - start) start stream ∙ ap (λ n. drop n stream) (omega (arith, order))

  starts_at : (s : Start) → StartsBehind judgement (drop end stream) s → StartsNext None (drop start stream) s
  starts_at s behind =
      subst (λ t. StartsAt (cut_head t) t s) (sym head.behind)
      (subst (λ c. StartsAt c (drop start stream) s) (sym head.whole)
      (judgement, head.reads, subst (λ t. StartsBehind judgement t s) (sym rest_at) behind))

  pub head_refused : (fault : WireFault) → judgement ≡ Refused fault → ComesNext None stream start (Found (Refuse fault) None end)
  head_refused fault is = (
    order,
    within,
    tt,
    omega (arith, order, within, head.some),
    starts_at (gives (Refuse fault) None (drop end stream))
        (subst (λ v. StartsBehind v (drop end stream) (gives (Refuse fault) None (drop end stream))) (sym is) refl),
  )

  pub head_expecting : (owed : OwedHead) (pending : Pending) → judgement ≡ Expecting owed → Begins true [] owed pending
      → ComesNext None stream start (Found Continue (Some pending) end)
  head_expecting owed pending is begins = (
    order,
    within,
    (
      ap (λ (a : Awaited). a.framing) begins.reader ∙ ap (λ (o : OwedHead). o.framing) (sym begins.owes),
      subst (λ t. MatchBool t (pending.head.bytes ≡ []) (IsHeadOf pending.head.bytes pending.owed)) (sym begins.asked) begins.bytes,
    ),
    omega (arith, order, within, head.some),
    starts_at (gives Continue (owed_by (Some pending)) (rest_of (Some pending) ++ drop end stream))
        (subst (λ v. StartsBehind v (drop end stream) (gives Continue (owed_by (Some pending)) (rest_of (Some pending) ++ drop end stream))) (sym is)
        (λ i. gives Continue (owes i) (rest i ++ drop end stream))),
  )
    where
      owes : owed_by (Some pending) ≡ Some owed
      owes = ap (λ t. cond t (Some pending.owed) None) begins.asked ∙ ap Some begins.owes

      rest : rest_of (Some pending) ≡ []
      rest = ap (λ b. b ++ pending.reader.came) begins.bytes ∙ ap (λ (a : Awaited). a.came) begins.reader

  pub head_alone : (owed : OwedHead) → judgement ≡ Accepted owed → has_body owed.framing ≡ false
      → ComesNext None stream start (Found (item_of owed (Complete [])) None end)
  head_alone owed is none = (
    order,
    within,
    tt,
    omega (arith, order, within, head.some),
    starts_at (gives (item_of owed (Complete [])) None (drop end stream))
        (subst (λ v. StartsBehind v (drop end stream) (gives (item_of owed (Complete [])) None (drop end stream))) (sym is)
        (complete [] (drop end stream), no_body owed.framing (drop end stream) none, refl)),
  )

  module _ (owed : OwedHead) (pending : Pending) (is : judgement ≡ Accepted owed) (begins : Begins false (take (end - start) (drop start stream)) owed pending) where
    long : length (take (end - start) (drop start stream)) ≡ end - start
    long = omega (arith, order, within, length-take (end - start) (drop start stream), length-drop start stream)

    parts : take (end - start) (drop start stream) ++ drop end stream ≡ drop start stream
    parts = ap (λ t. take (end - start) (drop start stream) ++ t) (sym rest_at) ∙ take-append-drop (end - start) (drop start stream)

    is_head : IsHeadOf (take (end - start) (drop start stream)) owed
    is_head = record {
      behind = drop_empty_lines_front (take (end - start) (drop start stream)) (drop end stream)
          (ap drop_empty_lines parts ∙ head.behind ∙ sym parts);
      whole = cut_front (drop start stream) (end - start) head.whole ∙ ap Whole (sym long);
      reads = subst (λ v. ReadsHead (take (end - start) (drop start stream)) v) is head.reads;
    }

    pub pending_sound : IsSound pending
    pending_sound = (
      ap (λ (a : Awaited). a.framing) begins.reader ∙ ap (λ (o : OwedHead). o.framing) (sym begins.owes),
      subst (λ t. MatchBool t (pending.head.bytes ≡ []) (IsHeadOf pending.head.bytes pending.owed)) (sym begins.asked)
          (subst (λ t. IsHeadOf t pending.owed) (sym begins.bytes) (subst (λ o. IsHeadOf (take (end - start) (drop start stream)) o) (sym begins.owes) is_head)),
    )

    none_owed : owed_by (Some pending) ≡ None
    none_owed = ap (λ t. cond t (Some pending.owed) None) begins.asked

    same_stream : rest_of (Some pending) ++ drop end stream ≡ drop start stream
    same_stream =
        ap (λ b. (b ++ pending.reader.came) ++ drop end stream) begins.bytes
        ∙ ap (λ (a : Awaited). (take (end - start) (drop start stream) ++ a.came) ++ drop end stream) begins.reader
        ∙ ap (λ t. t ++ drop end stream) (append-nil (take (end - start) (drop start stream))) ∙ parts

    starts_same : (s : Start) → StartsNext (Some pending) (drop end stream) s → StartsNext None (drop start stream) s
    starts_same s starts =
        subst (λ t. Starts None (drop_empty_lines t) s) same_stream
        (subst (λ o. Starts o (text_of o (rest_of (Some pending) ++ drop end stream)) s) none_owed starts)

    text_same : text_of (owed_by (Some pending)) (rest_of (Some pending) ++ drop end stream) ≡ drop_empty_lines (drop start stream)
    text_same = ap (λ o. text_of o (rest_of (Some pending) ++ drop end stream)) none_owed ∙ ap drop_empty_lines same_stream

    pub head_accepted : (next : Next) → ComesNext (Some pending) stream end next → ComesNext None stream start next
    head_accepted (Found item body to) next = (
      omega (arith, order, next.0),
      next.1,
      next.2,
      omega (arith, order, within, head.some, next.3),
      starts_same (gives item (owed_by body) (rest_of body ++ drop to stream)) next.4,
    )
    head_accepted (AwaitsHead to) next = (next.0, next.1, refl, next.3 ∙ text_same, starts_same awaits next.4)
    head_accepted (AwaitsBody body) next = (next.0, next.1 ∙ none_owed, next.2 ∙ text_same, starts_same awaits next.3)

-- ---- empty lines before a head

module _ (stream : List ℕ) (at start : ℕ) (order : at ≤ start) (same : drop_empty_lines (drop start stream) ≡ drop_empty_lines (drop at stream)) where
  starts_before : (s : Start) → StartsNext None (drop start stream) s → StartsNext None (drop at stream) s
  starts_before s starts = subst (λ t. Starts None t s) same starts

  pub comes_before : start ≤ length stream → (next : Next) → ComesNext None stream start next → ComesNext None stream at next
  comes_before within (Found item body to) next = (
    omega (arith, order, next.0),
    next.1,
    next.2,
    omega (arith, order, within, next.3),
    starts_before (gives item (owed_by body) (rest_of body ++ drop to stream)) next.4,
  )
  comes_before within (AwaitsHead to) next = (next.0, next.1, refl, next.3 ∙ same, starts_before awaits next.4)
  comes_before within (AwaitsBody body) next = (next.0, next.1, next.2 ∙ same, starts_before awaits next.3)

-- The text after the empty lines at a place.
module _ (stream head : List ℕ) (at start : ℕ) (within : at ≤ length stream) (is : head ≡ drop_empty_lines (drop at stream))
    (place : head ≡ drop (length (drop at stream) - length head) (drop at stream)) (fits : length head ≤ length (drop at stream))
    (starts_there : start ≡ length stream - length head) where
  pub head_order : at ≤ start
  head_order = omega (arith, within, fits, starts_there, length-drop at stream)

  pub head_at : drop start stream ≡ head
  head_at =
      sym (place ∙ drop-drop (length (drop at stream) - length head) at stream
      ∙ ap (λ n. drop n stream) (omega (arith, within, fits, starts_there, length-drop at stream)))

  pub no_empty_line : drop_empty_lines (drop start stream) ≡ drop start stream
  no_empty_line = ap drop_empty_lines (head_at ∙ is) ∙ drop_empty_lines_twice (drop at stream) ∙ sym is ∙ sym head_at

  pub same_drops : drop_empty_lines (drop start stream) ≡ drop_empty_lines (drop at stream)
  same_drops = no_empty_line ∙ head_at ∙ is

  pub head_whole : (len : ℕ) (judgement : Judgement) → Whole len ≡ cut_head head → HoldsText head (Whole len) → ReadsHead (take len head) judgement
      → IsHeadAt stream start (start + len) judgement
  head_whole len judgement whole holds reads =
      let size : (start + len) - start ≡ len = omega arith in
      record {
        behind = no_empty_line;
        whole = ap cut_head head_at ∙ sym whole ∙ ap Whole (sym size);
        some = omega (arith, holds.0);
        reads = subst (λ n. ReadsHead (take n (drop start stream)) judgement) (sym size)
            (subst (λ t. ReadsHead (take len t) judgement) (sym head_at) reads);
      }

  pub head_endless : Endless ≡ cut_head head → HoldsText head Endless → ComesNext None stream at (Found (Refuse HeadTooLarge) None (start + MAX_HEAD_LEN))
  head_endless endless holds = (
    omega (arith, head_order),
    omega (arith, holds, starts_there, fits, within, length-drop at stream),
    tt,
    omega (arith, head_order, holds, starts_there, fits, within, length-drop at stream),
    subst (λ t. StartsAt (cut_head t) t (gives (Refuse HeadTooLarge) None (drop (start + MAX_HEAD_LEN) stream))) is
        (subst (λ c. StartsAt c head (gives (Refuse HeadTooLarge) None (drop (start + MAX_HEAD_LEN) stream))) endless
        (ap (gives (Refuse HeadTooLarge) None) (sym (drop-drop MAX_HEAD_LEN start stream) ∙ ap (drop MAX_HEAD_LEN) head_at))),
  )

  pub head_unended : Unended ≡ cut_head head → ComesNext None stream at (AwaitsHead start)
  head_unended unended = (
    omega (arith, starts_there),
    ap cut_head head_at ∙ sym unended,
    refl,
    head_at ∙ is,
    subst (λ t. StartsAt (cut_head t) t awaits) is (subst (λ c. StartsAt c head awaits) unended refl),
  )

-- ---- outcomes

pub if_ok_map : {A E : Type 0} (P Q : A → Type 0) (r : Result A E) → ((x : A) → P x → Q x) → IfOk r P → IfOk r Q
if_ok_map P Q (Ok x) map_it holds = map_it x holds
if_ok_map P Q (Err e) map_it holds = tt

-- ---- the awaited input

-- A head that has begun and has no end yet.
pub head_awaited : (rest : List ℕ) → cut_head rest ≡ Unended → (length rest == 0) ≡ false → awaited_within None rest ≡ awaited.Head
head_awaited [] unended some = absurd (cc)
head_awaited (b ∷ rest) unended some = ap (awaited_after (b ∷ rest)) unended

-- A body.
pub body_awaited : (asked : Bool) (head came : List ℕ) (owed : OwedHead) → MatchBool asked (head ≡ []) (IsHeadOf head owed)
    → awaited_within (cond asked (Some owed) None) (head ++ came) ≡ awaited.Body
body_awaited true head came owed sound = refl
body_awaited false [] came owed sound =
    let none : cut_head [] ≡ Unended = refl in
    let same = sym sound.whole ∙ none in absurd (cc)
body_awaited false (b ∷ head) came owed sound = ap (awaited_after (b ∷ (head ++ came))) ((head_before (b ∷ head) came owed sound).1)
