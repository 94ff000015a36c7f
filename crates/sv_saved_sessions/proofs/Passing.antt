-- Bytes that follow others, in pieces.
use Rattle.std.proofs.Common.{◌≡◌, ℕ, zero, suc, ◌+◌, ◌<◌, ◌≤◌, Some, take_all, get_or, List, [], ◌∷◌, ◌++◌, length, length-append, take, Result, Ok, Err, refl, sym, ap, subst, ◌∙◌, append_assoc, arith}
use Rattle.std.specs.Prelude.{IsErrOf, slice_get}
use Rattle.std.specs.List.{AllByRecursion, flat_map}
use Rattle.std.proofs.lemmas.List.{append-nil}
use Rattle.sv_saved_sessions.specs.Hmac.{HoldsMessage, hmac_sha256}
use Rattle.sv_saved_sessions.specs.declared.hmac.Hmac.{Hmac}
use Rattle.sv_saved_sessions.specs.declared.pieces.Pieces.{Pieces}
use Rattle.sv_saved_sessions.specs.declared.save_fault.SaveFault.{SaveFault}
use Rattle.sv_saved_sessions.specs.declared.save_fault.SaveFault.TheVariants.{NoMemory, TooManyUsers, WriteFailed}
use Rattle.sv_saved_sessions.specs.Saving.{Passes, TakesIn, WritesFront, WritesRest}
use Rattle.sv_streams.specs.Calls.{Making, WritesAll}
use Rattle.sv_streams.specs.declared.stream.WriteFailed.{WriteFailed as WriteFault}
use Rattle.sv_saved_sessions.proofs.After.{same_item}
use Rattle.sv_streams.proofs.CallJoins.{writes_join}

module _ {S : Type 0} (makes : Making S) where
  writes_nothing : (sink : S) → WritesAll makes [] sink (Ok tt) sink
  writes_nothing sink = ([], [], refl, (refl, refl))

  longer : (text behind : List ℕ) (sink after : S) (failed : WriteFault) → WritesAll makes text sink (Err failed) after → WritesAll makes (text ++ behind) sink (Err failed) after
  longer text behind sink after failed (pieces, calls, made, (rest, are, is, left)) = (
    pieces,
    calls,
    made,
    (rest ++ behind, are, sym (append_assoc _ rest behind) ∙ ap (λ (front : List ℕ). front ++ behind) is, omega (arith, length-append rest behind)),
  )

  takes_nothing : (hmac : Hmac) → TakesIn hmac [] hmac
  takes_nothing hmac = λ key message holds. subst (λ (m : List ℕ). HoldsMessage key hmac m) (sym (append-nil message)) holds

  -- The bytes are in the buffer.
  pub in_buffer : (more : List ℕ) (before after : Pieces) (sink : S) → after.buffer.items ≡ before.buffer.items ++ more → after.hmac ≡ before.hmac
      → Passes makes more before sink (Ok tt) after sink
  in_buffer more before after sink is same =
      ([], sym is, writes_nothing sink, subst (λ (hmac : Hmac). TakesIn before.hmac [] hmac) (sym same) (takes_nothing before.hmac))

  pub nothing : (pieces : Pieces) (sink : S) → Passes makes [] pieces sink (Ok tt) pieces sink
  nothing pieces sink = in_buffer [] pieces pieces sink (sym (append-nil pieces.buffer.items)) refl

  -- The buffer was written.
  pub flushed : (before after : Pieces) (sink sink_after : S) → WritesAll makes before.buffer.items sink (Ok tt) sink_after → after.buffer.items ≡ []
      → TakesIn before.hmac before.buffer.items after.hmac → Passes makes [] before sink (Ok tt) after sink_after
  flushed before after sink sink_after writes none takes =
      (before.buffer.items, ap (λ (back : List ℕ). before.buffer.items ++ back) (sym none), writes, takes)

  pub not_flushed : (before after : Pieces) (sink sink_after : S) (failed : WriteFault) → WritesAll makes before.buffer.items sink (Err failed) sink_after
      → Passes makes [] before sink (Err WriteFailed) after sink_after
  not_flushed before after sink sink_after failed writes =
      (failed, subst (λ (text : List ℕ). WritesAll makes text sink (Err failed) sink_after) (sym (append-nil before.buffer.items)) writes)

  pub no_memory : (more : List ℕ) (before after : Pieces) (sink : S) → Passes makes more before sink (Err NoMemory) after sink
  no_memory more before after sink = ([], before.buffer.items ++ more, refl, writes_nothing sink)

  -- One and then another.
  regrouped : (p a b w q : List ℕ) → p ++ a ≡ w ++ q → p ++ (a ++ b) ≡ w ++ (q ++ b)
  regrouped p a b w q is = sym (append_assoc p a b) ∙ ap (λ (front : List ℕ). front ++ b) is ∙ append_assoc w q b

  pub and_then : (a b : List ℕ) (before between after : Pieces) (sink sink_between sink_after : S) (result : Result (Unit {0}) SaveFault)
      → Passes makes a before sink (Ok tt) between sink_between → Passes makes b between sink_between result after sink_after
      → Passes makes (a ++ b) before sink result after sink_after
  and_then a b before between after sink sink_between sink_after (Ok done) (w, is, writes, takes) (w2, is2, writes2, takes2) = (
    w ++ w2,
    regrouped before.buffer.items a b w between.buffer.items is ∙ ap (λ (back : List ℕ). w ++ back) is2 ∙ sym (append_assoc w w2 after.buffer.items),
    writes_join makes w w2 sink sink_between sink_after (Ok tt) writes writes2,
    λ key message holds. subst (λ (m : List ℕ). HoldsMessage key after.hmac m) (append_assoc message w w2) (takes2 key (message ++ w) (takes key message holds)),
  )
  and_then a b before between after sink sink_between sink_after (Err NoMemory) (w, is, writes, takes) (front, rest, is2, writes2) = (
    w ++ front,
    rest,
    regrouped before.buffer.items a b w between.buffer.items is ∙ ap (λ (back : List ℕ). w ++ back) is2 ∙ sym (append_assoc w front rest),
    writes_join makes w front sink sink_between sink_after (Ok tt) writes writes2,
  )
  and_then a b before between after sink sink_between sink_after (Err WriteFailed) (w, is, writes, takes) (failed, writes2) = (
    failed,
    subst (λ (text : List ℕ). WritesAll makes text sink (Err failed) sink_after) (sym (regrouped before.buffer.items a b w between.buffer.items is))
        (writes_join makes w (between.buffer.items ++ b) sink sink_between sink_after (Err failed) writes writes2),
  )
  and_then a b before between after sink sink_between sink_after (Err TooManyUsers) first second = absurd second

  -- A fault before the last of the bytes.
  pub failed_before : (a b : List ℕ) (before after : Pieces) (sink sink_after : S) (fault : SaveFault)
      → Passes makes a before sink (Err fault) after sink_after → Passes makes (a ++ b) before sink (Err fault) after sink_after
  failed_before a b before after sink sink_after NoMemory (front, rest, is, writes) =
      (front, rest ++ b, sym (append_assoc before.buffer.items a b) ∙ ap (λ (text : List ℕ). text ++ b) is ∙ append_assoc front rest b, writes)
  failed_before a b before after sink sink_after WriteFailed (failed, writes) = (
    failed,
    subst (λ (text : List ℕ). WritesAll makes text sink (Err failed) sink_after) (append_assoc before.buffer.items a b)
        (longer (before.buffer.items ++ a) b sink sink_after failed writes),
  )
  failed_before a b before after sink sink_after TooManyUsers fails = absurd fails

  -- A value was appended, and the buffer was then written if it was full.
  pub appended : (more : List ℕ) (before between after : Pieces) (sink sink_after : S) (result : Result (Unit {0}) SaveFault)
      → between.buffer.items ≡ before.buffer.items ++ more → between.hmac ≡ before.hmac → Passes makes [] between sink result after sink_after
      → Passes makes more before sink result after sink_after
  appended more before between after sink sink_after result is same later =
      subst (λ (m : List ℕ). Passes makes m before sink result after sink_after) (append-nil more)
      (and_then more [] before between after sink sink sink_after result (in_buffer more before between sink is same) later)

module _ {S : Type 0} (makes : Making S) where
  -- All that was left was written, and then the code of the whole.
  last_is : (buffer written left : List ℕ) → buffer ++ [] ≡ written ++ left → left ≡ [] → written ≡ buffer
  last_is buffer written left is none =
      sym (append-nil written) ∙ ap (λ (back : List ℕ). written ++ back) (sym none) ∙ sym is ∙ append-nil buffer

  pub finishing_failed : (key message : List ℕ) (before after : Pieces) (sink sink_after : S) (fault : SaveFault)
      → Passes makes [] before sink (Err fault) after sink_after
      → WritesRest makes (before.buffer.items ++ hmac_sha256 key (message ++ before.buffer.items)) sink (Err fault) sink_after
  finishing_failed key message before after sink sink_after NoMemory fails =
      failed_before makes [] (hmac_sha256 key (message ++ before.buffer.items)) before after sink sink_after NoMemory fails
  finishing_failed key message before after sink sink_after WriteFailed fails =
      failed_before makes [] (hmac_sha256 key (message ++ before.buffer.items)) before after sink sink_after WriteFailed fails
  finishing_failed key message before after sink sink_after TooManyUsers fails = absurd fails

  pub code_follows : (key message code : List ℕ) (before between : Pieces) (sink sink_between sink_after : S) (result : Result (Unit {0}) WriteFault)
      → Passes makes [] before sink (Ok tt) between sink_between → between.buffer.items ≡ []
      → ((k m : List ℕ) → HoldsMessage k between.hmac m → code ≡ hmac_sha256 k m)
      → WritesAll makes code sink_between result sink_after → HoldsMessage key before.hmac message
      → WritesAll makes (before.buffer.items ++ hmac_sha256 key (message ++ before.buffer.items)) sink result sink_after
  code_follows key message code before between sink sink_between sink_after result (w, is, writes, takes) empty gives code_writes holds =
      let whole : w ≡ before.buffer.items = last_is before.buffer.items w between.buffer.items is empty in
      let code_is : code ≡ hmac_sha256 key (message ++ before.buffer.items) =
      gives key (message ++ w) (takes key message holds) ∙ ap (λ (text : List ℕ). hmac_sha256 key (message ++ text)) whole in
      let both = writes_join makes w code sink sink_between sink_after result writes code_writes in
      subst (λ (text : List ℕ). WritesAll makes text sink result sink_after)
      (ap (λ (text : List ℕ). text ++ code) whole ∙ ap (λ (c : List ℕ). before.buffer.items ++ c) code_is) both

-- Values one after another: those before a place, the one there, and those after it.
module _ {A : Type 0} (encode : A → List ℕ) where
  pub bytes_more : (items : List A) (place : ℕ) (item : A) → slice_get items place ≡ Some item
      → flat_map encode (take (suc place) items) ≡ flat_map encode (take place items) ++ encode item
  bytes_more [] place item is = absurd cc
  bytes_more (first ∷ others) zero item is = append-nil (encode first) ∙ ap encode (same_item first item is)
  bytes_more (first ∷ others) (suc place) item is =
      ap (λ (back : List ℕ). encode first ++ back) (bytes_more others place item is)
      ∙ sym (append_assoc (encode first) (flat_map encode (take place others)) (encode item))

  pub bytes_rest : (items : List A) (place : ℕ) (item : A) → slice_get items place ≡ Some item
      → (rest : List ℕ) × (flat_map encode items ≡ flat_map encode (take place items) ++ (encode item ++ rest))
  bytes_rest [] place item is = absurd cc
  bytes_rest (first ∷ others) zero item is = (flat_map encode others, ap (λ (x : A). encode x ++ flat_map encode others) (same_item first item is))
  bytes_rest (first ∷ others) (suc place) item is =
      let later = bytes_rest others place item is in (
        later.0,
        ap (λ (back : List ℕ). encode first ++ back) later.1
            ∙ sym (append_assoc (encode first) (flat_map encode (take place others)) (encode item ++ later.0)),
      )

module _ {A : Type 0} (Fits : A → Type 0) where
  pub fit_more : (items : List A) (place : ℕ) (item : A) → slice_get items place ≡ Some item → AllByRecursion Fits (take place items) → Fits item
      → AllByRecursion Fits (take (suc place) items)
  fit_more [] place item is before fits = absurd cc
  fit_more (first ∷ others) zero item is before fits = (let same : first ≡ item = cc in subst (λ (x : A). Fits x) (sym same) fits, tt)
  fit_more (first ∷ others) (suc place) item is before fits = (before.0, fit_more others place item is before.1 fits)

-- What a loop over values keeps.
abbrev pub ArePassed : {S A : Type 0} → Making S → (A → List ℕ) → (A → Type 0) → List A → ℕ → Pieces → S → Pieces → S → Type 0
ArePassed makes encode Fits items place before sink after sink_after =
    Passes makes (flat_map encode (take place items)) before sink (Ok tt) after sink_after × AllByRecursion Fits (take place items)

module _ {S A : Type 0} (makes : Making S) (encode : A → List ℕ) (Fits : A → Type 0) (items : List A) (before : Pieces) (sink : S) where
  pub none_passed : ArePassed makes encode Fits items 0 before sink before sink
  none_passed = (nothing makes before sink, tt)

  pub more_passed : (place : ℕ) (item : A) (between after : Pieces) (sink_between sink_after : S) → slice_get items place ≡ Some item
      → ArePassed makes encode Fits items place before sink between sink_between
      → Passes makes (encode item) between sink_between (Ok tt) after sink_after → Fits item
      → ArePassed makes encode Fits items (place + 1) before sink after sink_after
  more_passed place item between after sink_between sink_after is so_far passes fits =
      let next : suc place ≡ place + 1 = omega arith in
      let both = and_then makes (flat_map encode (take place items)) (encode item) before between after sink sink_between sink_after (Ok tt) so_far.0 passes in
      let bytes = subst (λ (text : List ℕ). Passes makes text before sink (Ok tt) after sink_after) (sym (bytes_more encode items place item is)) both in (
        subst (λ (n : ℕ). Passes makes (flat_map encode (take n items)) before sink (Ok tt) after sink_after) next bytes,
        subst (λ (n : ℕ). AllByRecursion Fits (take n items)) next (fit_more Fits items place item is so_far.1 fits),
      )

  pub next_failed : (place : ℕ) (item : A) (between after : Pieces) (sink_between sink_after : S) (fault : SaveFault) → slice_get items place ≡ Some item
      → ArePassed makes encode Fits items place before sink between sink_between
      → Passes makes (encode item) between sink_between (Err fault) after sink_after
      → Passes makes (flat_map encode items) before sink (Err fault) after sink_after
  next_failed place item between after sink_between sink_after fault is so_far fails =
      let rest = bytes_rest encode items place item is in
      let longer_fails = failed_before makes (encode item) rest.0 between after sink_between sink_after fault fails in
      subst (λ (text : List ℕ). Passes makes text before sink (Err fault) after sink_after) (sym rest.1)
      (and_then makes (flat_map encode (take place items)) (encode item ++ rest.0) before between after sink sink_between sink_after (Err fault) so_far.0 longer_fails)

  pub all_passed : (place : ℕ) (after : Pieces) (sink_after : S) → length items ≤ place → ArePassed makes encode Fits items place before sink after sink_after
      → Passes makes (flat_map encode items) before sink (Ok tt) after sink_after × AllByRecursion Fits items
  all_passed place after sink_after le so_far = (
    subst (λ (front : List A). Passes makes (flat_map encode front) before sink (Ok tt) after sink_after) (take_all place items le) so_far.0,
    subst (λ (front : List A). AllByRecursion Fits front) (take_all place items le) so_far.1,
  )

-- An item as a loop names it.
pub item_at : {A : Type 0} (items : List A) (place : ℕ) (item : A) → place < length items → item ≡ get_or items place item → slice_get items place ≡ Some item
item_at [] place item lt is = absurd (omega arith)
item_at (first ∷ others) zero item lt is = ap (λ (x : _). Some x) (sym is)
item_at (first ∷ others) (suc place) item lt is = item_at others place item (omega arith) is

-- A list: its length and its items.
module _ {S : Type 0} (makes : Making S) where
  -- The code follows the content.
  pub rest_follows : (text more : List ℕ) (sink between after : S) (result : Result (Unit {0}) SaveFault) → WritesAll makes text sink (Ok tt) between
      → WritesRest makes more between result after → WritesRest makes (text ++ more) sink result after
  rest_follows text more sink between after (Ok done) writes rest = writes_join makes text more sink between after (Ok tt) writes rest
  rest_follows text more sink between after (Err NoMemory) writes (front, rest, is, writes_front) =
      (text ++ front, rest, ap (λ (back : List ℕ). text ++ back) is ∙ sym (append_assoc text front rest), writes_join makes text front sink between after (Ok tt) writes writes_front)
  rest_follows text more sink between after (Err WriteFailed) writes (failed, fails) = (failed, writes_join makes text more sink between after (Err failed) writes fails)
  rest_follows text more sink between after (Err TooManyUsers) writes rest = absurd rest

  pub begun_failed : (more behind : List ℕ) (before after : Pieces) (sink sink_after : S) (fault : SaveFault) → before.buffer.items ≡ []
      → Passes makes more before sink (Err fault) after sink_after → WritesRest makes (more ++ behind) sink (Err fault) sink_after
  begun_failed more behind before after sink sink_after fault none fails =
      subst (λ (front : List ℕ). WritesRest makes (front ++ (more ++ behind)) sink (Err fault) sink_after) none (failed_before makes more behind before after sink sink_after fault fails)

  pub as_front : (bytes : List ℕ) (sink after : S) (result : Result (Unit {0}) SaveFault) → WritesRest makes bytes sink result after → WritesFront makes bytes sink result after
  as_front bytes sink after (Ok done) rest = rest
  as_front bytes sink after (Err NoMemory) rest = rest
  as_front bytes sink after (Err WriteFailed) rest = rest
  as_front bytes sink after (Err TooManyUsers) rest = absurd rest

  pub never_too_many : (bytes : List ℕ) (sink after : S) (result : Result (Unit {0}) SaveFault) → WritesRest makes bytes sink result after → IsErrOf result TooManyUsers → ⊥
  never_too_many bytes sink after (Ok done) rest is = absurd cc
  never_too_many bytes sink after (Err NoMemory) rest is = absurd cc
  never_too_many bytes sink after (Err WriteFailed) rest is = absurd cc
  never_too_many bytes sink after (Err TooManyUsers) rest is = rest

-- The same for an equal value.
pub passes_as : {S A : Type 0} (makes : Making S) (encode : A → List ℕ) (x y : A) (before after : Pieces) (sink sink_after : S) (result : Result (Unit {0}) SaveFault) → x ≡ y
    → Passes makes (encode x) before sink result after sink_after → Passes makes (encode y) before sink result after sink_after
passes_as makes encode x y before after sink sink_after result same passes = subst (λ (value : _). Passes makes (encode value) before sink result after sink_after) same passes
