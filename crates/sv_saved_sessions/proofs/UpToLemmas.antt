-- A file that is written a part at a time.
use Rattle.std.proofs.Common.{Bor, ◌≡◌, ℕ, zero, suc, ◌+◌, ◌≤◌, Bool, true, false, leb, ltb, inl, inr, Option, Some, None, List, [], ◌∷◌, ◌++◌, length, drop, Result, Ok, Err, refl, sym, ap, subst, ◌∙◌, append_assoc, arith}
use Rattle.std.specs.Prelude.{IsErrOf, OnOk, not, min, nat_le, slice_get}
use Rattle.std.specs.List.{AllByRecursion, flat_map}
use Rattle.std.specs.Option.{is_none, is_some, option_copied}
use Rattle.std.proofs.lemmas.Bool.{cases_Bool, le-leb, leb-false, leb-true, ltb-false, ltb-true}
use Rattle.std.proofs.lemmas.List.{append-nil}
use Rattle.std.proofs.lemmas.Option.{slice_get_past}
use Rattle.sv_lifecycle.specs.declared.suspended_context.SuspendedContext.{SuspendedContext}
use Rattle.sv_saved_sessions.specs.Content.{content, session_bytes}
use Rattle.sv_saved_sessions.specs.File.{file_of}
use Rattle.sv_saved_sessions.specs.Hmac.{HoldsMessage, hmac_sha256}
use Rattle.sv_saved_sessions.specs.Saved.{CanBeSaved, IsSession}
use Rattle.sv_saved_sessions.specs.Saving.{Finishes, GoesOn, IsUpTo, Passes, WritesRest, head_bytes, suspended}
use Rattle.sv_saved_sessions.specs.declared.file_writer.FileWriter.{FileWriter}
use Rattle.sv_saved_sessions.specs.declared.pieces.Pieces.{Pieces}
use Rattle.sv_saved_sessions.specs.declared.save_fault.SaveFault.{SaveFault}
use Rattle.sv_saved_sessions.specs.declared.save_fault.SaveFault.TheVariants.{NoMemory, TooManyUsers, WriteFailed}
use Rattle.sv_saved_sessions.specs.declared.saved_head.SavedHead.{SavedHead}
use Rattle.sv_session.specs.Restoring.{session_after}
use Rattle.sv_session.specs.Store.{IsOrderly, Session, SessionsState, Store}
use Rattle.sv_streams.specs.Calls.{Making}
use Rattle.sv_saved_sessions.proofs.After.{first_above, next_after, same_item, some_item}
use Rattle.sv_saved_sessions.proofs.ContentSteps.{content_is_head}
use Rattle.sv_saved_sessions.proofs.Passing.{begun_failed, failed_before, rest_follows}
use Rattle.sv_streams.proofs.CallJoins.{writes_join}

-- ---- lists from a place on
item_left : {A : Type 0} (items : List A) (place : ℕ) (item : A) → slice_get items place ≡ Some item → drop place items ≡ item ∷ drop (suc place) items
item_left [] place item is = absurd cc
item_left (x ∷ xs) zero item is = ap (λ (first : _). first ∷ xs) (same_item x item is)
item_left (x ∷ xs) (suc place) item is = item_left xs place item is

none_left : {A : Type 0} (items : List A) (place : ℕ) → length items ≤ place → drop place items ≡ []
none_left [] zero le = refl
none_left [] (suc place) le = refl
none_left (x ∷ xs) zero le = absurd (omega (arith, le))
none_left (x ∷ xs) (suc place) le = none_left xs place (omega (arith, le))

-- Places after the last are alike.
at_most : {A : Type 0} (items : List A) (place : ℕ) → (drop place items ≡ drop (min place (length items)) items) × (slice_get items place ≡ slice_get items (min place (length items)))
at_most items place = elim (cases_Bool (ltb place (length items))) [
  | inl less ↦
      let same : place ≡ min place (length items) = omega (arith, ltb-true place (length items) less) in
      (ap (λ (n : ℕ). drop n items) same, ap (λ (n : ℕ). slice_get items n) same)
  | inr more ↦
      let past : length items ≤ place = ltb-false place (length items) more in
      let last : length items ≡ min place (length items) = omega (arith, past) in (
        none_left items place past ∙ sym (none_left items (length items) (omega arith)) ∙ ap (λ (n : ℕ). drop n items) last,
        slice_get_past items place past ∙ sym (slice_get_past items (length items) (omega arith)) ∙ ap (λ (n : ℕ). slice_get items n) last,
      )
]

none_at : {A : Type 0} (items : List A) (place : ℕ) → is_none (slice_get items place) ≡ nat_le (length items) place
none_at {A} items place = elim (cases_Bool (leb (length items) place)) [
  | inl past ↦ rw past (ap (λ (o : Option A). is_none o) (slice_get_past items place (leb-true (length items) place past)))
  | inr less ↦ let item = some_item items place (leb-false (length items) place less) in rw less (ap (λ (o : Option A). is_none o) item.1)
]

within : {A : Type 0} (items : List A) (place : ℕ) → None ≡ slice_get items place → length items ≤ place
within [] place none = omega arith
within (x ∷ xs) zero none = absurd cc
within (x ∷ xs) (suc place) none = omega (arith, within xs place none)

pub none_copied : (none : Bool) (found : Option (Bor Session)) (copied : Option Session) → option_copied found ≡ copied → is_some found ≡ not none → none ≡ is_none copied
none_copied true (Some x) copied is test = absurd cc
none_copied false (Some x) copied is test = ap (λ (o : Option Session). is_none o) is
none_copied true None copied is test = ap (λ (o : Option Session). is_none o) is
none_copied false None copied is test = absurd cc

-- ---- bytes
moved : (front buffer more rest written left : List ℕ) → buffer ++ more ≡ written ++ left → (front ++ buffer) ++ (more ++ rest) ≡ ((front ++ written) ++ left) ++ rest
moved front buffer more rest written left is =
    append_assoc front buffer (more ++ rest) ∙ ap (λ (back : List ℕ). front ++ back) (sym (append_assoc buffer more rest) ∙ ap (λ (text : List ℕ). text ++ rest) is)
    ∙ sym (append_assoc front (written ++ left) rest) ∙ ap (λ (text : List ℕ). text ++ rest) (sym (append_assoc front written left))

with_code : (front buffer more rest code : List ℕ) → front ++ (buffer ++ (more ++ (rest ++ code))) ≡ ((front ++ buffer) ++ (more ++ rest)) ++ code
with_code front buffer more rest code =
    ap (λ (back : List ℕ). front ++ (buffer ++ back)) (sym (append_assoc more rest code)) ∙ sym (append_assoc front buffer ((more ++ rest) ++ code))
    ∙ sym (append_assoc (front ++ buffer) (more ++ rest) code)

-- ---- the beginning
module _ {S : Type 0} (makes : Making S) (key : List ℕ) (moment : ℕ) (head : SavedHead) (sessions : SessionsState) where
  pub begun : (before after : Pieces) (sink sink_after : S) → IsOrderly sessions.store → before.buffer.items ≡ [] → HoldsMessage key before.hmac []
      → Passes makes (head_bytes moment head sessions.store) before sink (Ok tt) after sink_after
      → (AllByRecursion IsSession sessions.store.sessions → CanBeSaved moment (suspended head sessions))
      → IsUpTo makes key moment (suspended head sessions) 0 sink (record { pieces = after; last = 0 }) sink_after
  begun before after sink sink_after rise none holds (written, is, writes, takes) fits =
      let whole : head_bytes moment head sessions.store ≡ written ++ after.buffer.items =
      ap (λ (front : List ℕ). front ++ head_bytes moment head sessions.store) (sym none) ∙ is in
      record {
        front = written;
        parts = content_is_head moment head sessions ∙ ap (λ (front : List ℕ). front ++ flat_map session_bytes sessions.store.sessions) whole;
        written = writes;
        in_code = takes key [] holds;
        fits = fits;
        next = first_above 0 sessions.store.serial sessions.store.sessions rise;
      }

  pub not_begun : (before after : Pieces) (sink sink_after : S) (fault : SaveFault) → before.buffer.items ≡ []
      → Passes makes (head_bytes moment head sessions.store) before sink (Err fault) after sink_after
      → WritesRest makes (file_of key moment (suspended head sessions)) sink (Err fault) sink_after
  not_begun before after sink sink_after fault none fails =
      let text = content moment (suspended head sessions) in
      let items = flat_map session_bytes sessions.store.sessions in
      let rest = begun_failed makes (head_bytes moment head sessions.store) (items ++ hmac_sha256 key text) before after sink sink_after fault none fails in
      subst (λ (bytes : List ℕ). WritesRest makes bytes sink (Err fault) sink_after)
      (sym (append_assoc (head_bytes moment head sessions.store) items (hmac_sha256 key text)) ∙ ap (λ (front : List ℕ). front ++ hmac_sha256 key text) (sym (content_is_head moment head sessions)))
      rest

-- The fault of a part is that of the whole.
pub refused_too : {T U : Type 0} (fault : SaveFault) → IsErrOf {T = T} (Err fault) TooManyUsers → IsErrOf {T = U} (Err fault) TooManyUsers
refused_too NoMemory is = absurd cc
refused_too WriteFailed is = absurd cc
refused_too TooManyUsers is = refl

-- ---- the sessions
module _ {S : Type 0} (makes : Making S) (key : List ℕ) (moment : ℕ) (context : SuspendedContext) (start : S) where
  one_added : (added : ℕ) (session : Session) (before after : FileWriter) (sink sink_after : S) → IsOrderly context.sessions.store
      → IsUpTo makes key moment context added start before sink → session_after before.last context.sessions.store ≡ Some session
      → Passes makes (session_bytes session) before.pieces sink (Ok tt) after.pieces sink_after → IsSession session → after.last ≡ session.number
      → IsUpTo makes key moment context (suc added) start after sink_after
  one_added added session before after sink sink_after rise up is (written, joined, writes, takes) fits last =
      let sessions = context.sessions.store.sessions in
      let here = sym up.next ∙ is in
      let left = item_left sessions added session here in
      let rest = flat_map session_bytes (drop (suc added) sessions) in
      record {
        front = up.front ++ written;
        parts = up.parts ∙ ap (λ (others : List Session). (up.front ++ before.pieces.buffer.items) ++ flat_map session_bytes others) left
            ∙ moved up.front before.pieces.buffer.items (session_bytes session) rest written after.pieces.buffer.items joined;
        written = writes_join makes up.front written start sink sink_after (Ok tt) up.written writes;
        in_code = takes key up.front up.in_code;
        fits = λ all. up.fits (subst (λ (others : List Session). AllByRecursion IsSession others) (sym left) (fits, all));
        next = ap (λ (number : ℕ). session_after number context.sessions.store) last ∙ next_after 0 context.sessions.store.serial sessions added session rise here;
      }

  not_added : (added : ℕ) (session : Session) (before : FileWriter) (after : Pieces) (sink sink_after : S) (fault : SaveFault)
      → IsUpTo makes key moment context added start before sink → session_after before.last context.sessions.store ≡ Some session
      → Passes makes (session_bytes session) before.pieces sink (Err fault) after sink_after
      → WritesRest makes (file_of key moment context) start (Err fault) sink_after
  not_added added session before after sink sink_after fault up is fails =
      let sessions = context.sessions.store.sessions in
      let code = hmac_sha256 key (content moment context) in
      let left = item_left sessions added session (sym up.next ∙ is) in
      let rest = flat_map session_bytes (drop (suc added) sessions) in
      let parts = up.parts ∙ ap (λ (others : List Session). (up.front ++ before.pieces.buffer.items) ++ flat_map session_bytes others) left in
      let later = failed_before makes (session_bytes session) (rest ++ code) before.pieces after sink sink_after fault fails in
      let all = rest_follows makes up.front (before.pieces.buffer.items ++ (session_bytes session ++ (rest ++ code))) start sink sink_after (Err fault) up.written later in
      subst (λ (bytes : List ℕ). WritesRest makes bytes start (Err fault) sink_after)
      (with_code up.front before.pieces.buffer.items (session_bytes session) rest code ∙ ap (λ (text : List ℕ). text ++ code) (sym parts)) all

  clipped : (added : ℕ) (writer : FileWriter) (sink : S) → IsUpTo makes key moment context added start writer sink
      → IsUpTo makes key moment context (min added (length context.sessions.store.sessions)) start writer sink
  clipped added writer sink up =
      let sessions = context.sessions.store.sessions in
      let same = at_most sessions added in
      record {
        front = up.front;
        parts = up.parts ∙ ap (λ (others : List Session). (up.front ++ writer.pieces.buffer.items) ++ flat_map session_bytes others) same.0;
        written = up.written;
        in_code = up.in_code;
        fits = λ all. up.fits (subst (λ (others : List Session). AllByRecursion IsSession others) (sym same.0) all);
        next = up.next ∙ same.1;
      }

  pub finished : (writer : FileWriter) (sink sink_after : S) (result : Result (Unit {0}) SaveFault)
      → IsUpTo makes key moment context (length context.sessions.store.sessions) start writer sink
      → ((k m : List ℕ) → HoldsMessage k writer.pieces.hmac m → WritesRest makes (writer.pieces.buffer.items ++ hmac_sha256 k (m ++ writer.pieces.buffer.items)) sink result sink_after)
      → WritesRest makes (file_of key moment context) start result sink_after × CanBeSaved moment context
  finished writer sink sink_after result up rest =
      let sessions = context.sessions.store.sessions in
      let buffer = writer.pieces.buffer.items in
      let none = none_left sessions (length sessions) (omega arith) in
      let whole : content moment context ≡ up.front ++ buffer =
      up.parts ∙ ap (λ (others : List Session). (up.front ++ buffer) ++ flat_map session_bytes others) none ∙ append-nil (up.front ++ buffer) in
      let all = rest_follows makes up.front (buffer ++ hmac_sha256 key (up.front ++ buffer)) start sink sink_after result up.written (rest key up.front up.in_code) in (
        subst (λ (bytes : List ℕ). WritesRest makes bytes start result sink_after)
            (sym (append_assoc up.front buffer (hmac_sha256 key (up.front ++ buffer))) ∙ ap (λ (text : List ℕ). text ++ hmac_sha256 key text) (sym whole)) all,
        up.fits (subst (λ (others : List Session). AllByRecursion IsSession others) (sym none) tt),
      )

-- What the loop over the next sessions keeps.
abbrev pub KeepsOn : {S : Type 0} → Making S → Store → FileWriter → S → ℕ → FileWriter → S → Type 0
KeepsOn {S} makes store before sink place after sink_after =
    (key : List ℕ) (moment : ℕ) (context : SuspendedContext) (added : ℕ) (start : S) → context.sessions.store ≡ store → IsUpTo makes key moment context added start before sink
    → IsUpTo makes key moment context (added + place) start after sink_after

module _ {S : Type 0} (makes : Making S) (store : Store) (count : ℕ) (before : FileWriter) (sink : S) where
  pub none_kept : KeepsOn makes store before sink 0 before sink
  none_kept key moment context added start same up =
      let all : added ≡ added + 0 = omega arith in
      subst (λ (n : ℕ). IsUpTo makes key moment context n start before sink) all up

  pub one_kept : (place : ℕ) (session : Session) (between after : FileWriter) (sink_between sink_after : S) → IsOrderly store → KeepsOn makes store before sink place between sink_between
      → session_after between.last store ≡ Some session → Passes makes (session_bytes session) between.pieces sink_between (Ok tt) after.pieces sink_after → IsSession session
      → after.last ≡ session.number → KeepsOn makes store before sink (place + 1) after sink_after
  one_kept place session between after sink_between sink_after rise keeps is passes fits last key moment context added start same up =
      let next : suc (added + place) ≡ added + (place + 1) = omega arith in
      let rises = subst (λ (s : Store). IsOrderly s) (sym same) rise in
      let found = ap (λ (s : Store). session_after between.last s) same ∙ is in
      subst (λ (n : ℕ). IsUpTo makes key moment context n start after sink_after) next
      (one_added makes key moment context start (added + place) session between after sink_between sink_after rises (keeps key moment context added start same up) found passes fits last)

  pub one_not_kept : (place : ℕ) (session : Session) (between after : FileWriter) (pieces : Pieces) (sink_between sink_after : S) (fault : SaveFault) → KeepsOn makes store before sink place between sink_between
      → session_after between.last store ≡ Some session → Passes makes (session_bytes session) between.pieces sink_between (Err fault) pieces sink_after
      → GoesOn makes store count before sink (Err fault) after sink_after
  one_not_kept place session between after pieces sink_between sink_after fault keeps is fails key moment context added start same up =
      let found = ap (λ (s : Store). session_after between.last s) same ∙ is in
      not_added makes key moment context start (added + place) session between pieces sink_between sink_after fault (keeps key moment context added start same up) found fails

  at_limit : (place : ℕ) (after : FileWriter) (sink_after : S) (all : Bool) → KeepsOn makes store before sink place after sink_after
      → (added : ℕ) → min (added + place) (length store.sessions) ≡ min (added + count) (length store.sessions) → all ≡ nat_le (length store.sessions) (added + count)
      → (key : List ℕ) (moment : ℕ) (context : SuspendedContext) (start : S) → context.sessions.store ≡ store → IsUpTo makes key moment context added start before sink
      → (all ≡ nat_le (length store.sessions) (added + count)) × IsUpTo makes key moment context (min (added + count) (length store.sessions)) start after sink_after
  at_limit place after sink_after all keeps added limit is key moment context start same up =
      let here = clipped makes key moment context start (added + place) after sink_after (keeps key moment context added start same up) in
      let lengths = ap (λ (s : Store). min (added + place) (length s.sessions)) same in
      (is, subst (λ (n : ℕ). IsUpTo makes key moment context n start after sink_after) (lengths ∙ limit) here)

  place_is : (place : ℕ) (after : FileWriter) (sink_after : S) → KeepsOn makes store before sink place after sink_after
      → (key : List ℕ) (moment : ℕ) (context : SuspendedContext) (added : ℕ) (start : S) → context.sessions.store ≡ store → IsUpTo makes key moment context added start before sink
      → session_after after.last store ≡ slice_get store.sessions (added + place)
  place_is place after sink_after keeps key moment context added start same up =
      subst (λ (s : Store). session_after after.last s ≡ slice_get s.sessions (added + place)) same (keeps key moment context added start same up).next

  pub all_kept : (place : ℕ) (after : FileWriter) (sink_after : S) → place ≤ count → KeepsOn makes store before sink place after sink_after
      → None ≡ session_after after.last store → GoesOn makes store count before sink (Ok true) after sink_after
  all_kept place after sink_after le keeps none key moment context added start same up =
      let past = within store.sessions (added + place) (none ∙ place_is place after sink_after keeps key moment context added start same up) in
      at_limit place after sink_after true keeps added (omega (arith, past, le)) (sym (le-leb (length store.sessions) (added + count) (omega (arith, past, le)))) key moment context start same up

  pub part_kept : (place : ℕ) (after : FileWriter) (sink_after : S) (all : Bool) → place ≤ count → count ≤ place → KeepsOn makes store before sink place after sink_after
      → all ≡ is_none (session_after after.last store) → GoesOn makes store count before sink (Ok all) after sink_after
  part_kept place after sink_after all le ge keeps is key moment context added start same up =
      let here : place ≡ count = omega (arith, le, ge) in
      let next = place_is place after sink_after keeps key moment context added start same up in
      let known = is ∙ ap (λ (o : Option Session). is_none o) next ∙ none_at store.sessions (added + place) ∙ ap (λ (n : ℕ). nat_le (length store.sessions) (added + n)) here in
      at_limit place after sink_after all keeps added (omega (arith, le, ge)) known key moment context start same up

-- ---- the whole
module _ {S : Type 0} (makes : Making S) (key : List ℕ) (moment : ℕ) (context : SuspendedContext) (start : S) where
  pub whole_written : (count : ℕ) (all : Bool) (writer between : FileWriter) (sink sink_between after : S) (result : Result (Unit {0}) SaveFault) → count ≡ length context.sessions.store.sessions
      → IsUpTo makes key moment context 0 start writer sink → GoesOn makes context.sessions.store count writer sink (Ok all) between sink_between
      → Finishes makes between sink_between result after → WritesRest makes (file_of key moment context) start result after × CanBeSaved moment context
  whole_written count all writer between sink sink_between after result is up goes finishes =
      let last : min (0 + count) (length context.sessions.store.sessions) ≡ length context.sessions.store.sessions = omega (arith, is) in
      finishes key moment context start
      (subst (λ (n : ℕ). IsUpTo makes key moment context n start between sink_between) last (goes key moment context 0 start refl up).1)

pub saved_as : (moment : ℕ) (context other : SuspendedContext) (result : Result (Unit {0}) SaveFault) → context ≡ other → CanBeSaved moment context → OnOk result (CanBeSaved moment other)
saved_as moment context other (Ok done) same can = subst (λ (c : SuspendedContext). CanBeSaved moment c) same can
saved_as moment context other (Err fault) same can = tt
