-- The reading of a stream of bytes as items (RFC 9112, sections 2, 6 and 9.3).
use Rattle.std.specs.Prelude.{◌≡◌, ℕ, ◌+◌, Bool, ◌⊎◌, List, [], ◌∷◌, take, drop, ◌==◌, nat_lt, count_by, Option, None, Some}
use Rattle.std.specs.Bool.{MatchBool}
use Rattle.httparse.specs.Ascii.{line_feed}
use Rattle.httparse.specs.Grammar.{RequestHead, ReadsRequest}
use Rattle.sv_wire.specs.declared.body_reader.BodyEnd.{BodyEnd}
use Rattle.sv_wire.specs.declared.body_reader.BodyEnd.TheVariants.{Complete, Broken}
use Rattle.sv_text.specs.declared.front.Cut.{Cut}
use Rattle.sv_text.specs.declared.front.Cut.TheVariants.{Whole, Endless, Unended}
use Rattle.sv_wire.specs.Body.{ReadsBody}
use Rattle.sv_wire.specs.Chunks.{Body, unfinished, complete, broken}
use Rattle.sv_text.specs.Front.{cut}
use Rattle.sv_wire.specs.declared.item.Item.{Item}
use Rattle.sv_wire.specs.declared.item.Item.TheVariants.{Continue, Message, Refuse}
use Rattle.sv_wire.specs.declared.limits.TheConstants.{MAX_HEAD_LEN, MAX_FIELD_LINES}
use Rattle.sv_wire.specs.declared.owed_head.OwedHead.{OwedHead}
use Rattle.sv_wire.specs.declared.owed_head.Judgement.{Judgement}
use Rattle.sv_wire.specs.declared.owed_head.Judgement.TheVariants.{Refused, Expecting, Accepted}
use Rattle.sv_wire.specs.declared.wire_fault.WireFault.TheVariants.{BadHead, HeadTooLarge}
use Rattle.sv_wire.specs.EmptyLines.{drop_empty_lines}
use Rattle.sv_wire.specs.Head.{ends_head, judge}
use Rattle.sv_wire.specs.Items.{is_last}
use Rattle.sv_message.specs.Messages.{with_body}
use Rattle.sv_wire.specs.WireFault.{fault_of}

-- The start of a text.
pub data Start : Type 0 where
  -- An item, the head that is owed after it, and the text after it.
  gives : Item → Option OwedHead → List ℕ → Start
  -- No complete item.
  awaits : Start

-- The whole text is not the head of a request.
abbrev pub IsNoHead : List ℕ → Type 0
IsNoHead text = (head : RequestHead) → ¬ (ReadsRequest text head [])

-- The number of lines in a text.
abbrev pub lines : List ℕ → ℕ
lines text = count_by (λ b. b == line_feed) text

-- Whether the text of a head has too many lines. Besides the field lines it has a request line and an empty line.
abbrev pub has_too_many_lines : List ℕ → Bool
has_too_many_lines text = nat_lt (MAX_FIELD_LINES + 2) (lines text)

-- The judgement on the text: that on its head, or a refusal if it is no head.
abbrev pub IsJudged : List ℕ → Judgement → Type 0
IsJudged text judgement =
    ((head : RequestHead) × ReadsRequest text head [] × (judgement ≡ judge head)) ⊎ (IsNoHead text × (judgement ≡ Refused BadHead))

-- The judgement on the whole text of a head.
abbrev pub ReadsHead : List ℕ → Judgement → Type 0
ReadsHead text judgement = MatchBool (has_too_many_lines text) (judgement ≡ Refused HeadTooLarge) (IsJudged text judgement)

-- The end of the head at the start of a text.
abbrev pub cut_head : List ℕ → Cut
cut_head text = cut ends_head MAX_HEAD_LEN text

-- The item for a head and the end of its body.
abbrev pub item_of : OwedHead → BodyEnd → Item
item_of owed (Complete bytes) = Message (with_body bytes owed.message)
item_of owed (Broken fault) = Refuse (fault_of fault)

-- The start of a text after a head, by the reading of the body.
abbrev pub after_body : OwedHead → Body → Start
after_body owed unfinished = awaits
after_body owed (complete bytes rest) = gives (item_of owed (Complete bytes)) None rest
after_body owed (broken fault rest) = gives (item_of owed (Broken fault)) None rest

-- The text begins with the body of a head.
abbrev pub StartsBody : OwedHead → List ℕ → Start → Type 0
StartsBody owed text start = (body : Body) × ReadsBody owed.framing text body × (start ≡ after_body owed body)

-- The start of the text after a head with this judgement.
abbrev pub StartsBehind : Judgement → List ℕ → Start → Type 0
StartsBehind (Refused fault) text start = start ≡ gives (Refuse fault) None text
StartsBehind (Expecting owed) text start = start ≡ gives Continue (Some owed) text
StartsBehind (Accepted owed) text start = StartsBody owed text start

-- The start of a text, by the end of its head.
abbrev pub StartsAt : Cut → List ℕ → Start → Type 0
StartsAt (Whole len) text start = (judgement : Judgement) × ReadsHead (take len text) judgement × StartsBehind judgement (drop len text) start
StartsAt Endless text start = start ≡ gives (Refuse HeadTooLarge) None (drop MAX_HEAD_LEN text)
StartsAt Unended text start = start ≡ awaits

-- The stream without the empty lines that are ignored before a head.
abbrev pub text_of : Option OwedHead → List ℕ → List ℕ
text_of None stream = drop_empty_lines stream
text_of (Some owed) stream = stream

-- The start of the text, with this head owed, or none.
abbrev pub Starts : Option OwedHead → List ℕ → Start → Type 0
Starts None text start = StartsAt (cut_head text) text start
Starts (Some owed) text start = StartsBody owed text start

-- With this head owed, the stream consists of the texts of the items in order, and a rest that begins with no complete
-- item. Afterwards `left` is owed. Nothing is read after a last item.
abbrev pub Reads : Option OwedHead → List ℕ → List Item → Option OwedHead → List ℕ → Type 0
Reads owed stream [] left rest = (left ≡ owed) × (rest ≡ text_of owed stream) × Starts owed rest awaits
Reads owed stream (item ∷ items) left rest =
    (next : Option OwedHead) × (behind : List ℕ) × Starts owed (text_of owed stream) (gives item next behind)
    × MatchBool (is_last item) ((items ≡ []) × (left ≡ None) × (rest ≡ [])) (Reads next behind items left rest)
