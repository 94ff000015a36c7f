-- Laws of requests whose heads are too long (RFC 9112, sections 2.1 and 3).
use Rattle.std.specs.Prelude.{◌≡◌, ◌≢◌, ℕ, List, [], ◌++◌, drop, length, None}
use Rattle.httparse.specs.Grammar.{IsRequestHead, RequestHead, print_request}
use Rattle.sv_text.specs.declared.front.Cut.TheVariants.{Whole}
use Rattle.sv_wire.specs.Reads.{Start, Starts, cut_head, gives}
use Rattle.sv_wire.specs.declared.item.Item.TheVariants.{Refuse}
use Rattle.sv_wire.specs.declared.limits.TheConstants.{MAX_HEAD_LEN}
use Rattle.sv_wire.specs.declared.wire_fault.WireFault.TheVariants.{HeadTooLarge}
use Rattle.sv_explanation.specs.Explanation.{explanation_of}
use Rattle.sv_explanation.specs.Heads.{shortest_head}
use Rattle.sv_explanation.specs.declared.explanation.Explanation.TheVariants.{Unread}
use Rattle.sv_explanation.specs.declared.site_context.SiteContext.{SiteContext}

-- If the fault of a method and a target is that their heads are too large, the server refuses each stream that begins
-- with a head of theirs for this fault, whatever its version and fields are and whatever follows it.
abbrev pub LongHeadsAreRefused : Type 0
LongHeadsAreRefused = (contexts : List SiteContext) (head : RequestHead) (rest : List ℕ) (start : Start)
    → explanation_of contexts head.method head.target ≡ Unread HeadTooLarge
    → IsRequestHead head → head.blank ≡ []
    → Starts None (print_request head ++ rest) start
    → start ≡ gives (Refuse HeadTooLarge) None (drop MAX_HEAD_LEN (print_request head ++ rest))

-- In any other case the shortest head of theirs ends within the limit.
abbrev pub OtherHeadsEnd : Type 0
OtherHeadsEnd = (contexts : List SiteContext) (head : RequestHead)
    → explanation_of contexts head.method head.target ≢ Unread HeadTooLarge
    → IsRequestHead head
    → cut_head (shortest_head head.method head.target) ≡ Whole (length (shortest_head head.method head.target))
