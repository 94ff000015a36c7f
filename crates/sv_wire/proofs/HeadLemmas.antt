-- The parts of a head that the spans of a parser show, and the number of its lines.
use Rattle.std.proofs.Common.{◌≡◌, ℕ, zero, suc, ◌+◌, ◌<◌, ◌≤◌, Bool, true, false, true≢false, Result, Ok, Err, List, [], ◌∷◌, ◌++◌, length, get_or, take, drop, map, refl, ◌==◌, sym, ap, ◌∙◌, subst, inl, inr, cond, ne_eqb, le-ltb, arith, length-append}
use Rattle.std.specs.Prelude.{All, IfOk}
use Rattle.std.specs.List.{count_by, flat_map}
use Rattle.std.proofs.lemmas.Grind.{common_steps}
use Rattle.std.proofs.lemmas.List.{append-nil, append_assoc, length-map, get_or-map, drop_all}
use Rattle.std.proofs.lemmas.List.Elements.{All-nil, All-cons, All-head, All-tail, All-map, All-weaker}
use Rattle.std.proofs.lemmas.List.Sums.{sum_by-append, sum_by-cons}
use Rattle.http_header.specs.FieldName.{IsFieldName}
use Rattle.http_header.specs.FieldValue.{IsFieldValue, plain_value}
use Rattle.http_header.specs.Token as written
use Rattle.httparse.specs.Grammar.{LineEnd, crlf, lf, print_end, Field, IsField, is_token_byte, is_uri_byte, is_value_byte, IsToken, AllPass, print_field, print_section, print_version, print_blank, RequestHead, IsRequestHead, print_request, ReadsRequest}
use Rattle.httparse.specs.Spans.{header_bytes, name_and_value, IsRequestWithin, IsRequestAt, FindsRequest}
use Rattle.httparse.specs.declared.spans.HeaderSpan.{HeaderSpan}
use Rattle.httparse.specs.declared.spans.RequestSpans.{RequestSpans}
use Rattle.httparse.specs.Outcome.{IsCompleteAnd}
use Rattle.httparse.specs.declared.Error.{Error}
use Rattle.httparse.specs.declared.Status.{Status}
use Rattle.httparse.specs.declared.Status.TheVariants.{Complete, Partial}
use Rattle.httparse.proofs.TrimLemmas.{AllPass-trim_ows}
use Rattle.sv_message.specs.declared.field.Field.{Field as OwnField}
use Rattle.sv_text.specs.Gives.{GivesAnswer}
use Rattle.sv_text.specs.declared.NoMemory.{NoMemory}
use Rattle.sv_wire.specs.declared.owed_head.Judgement.{Judgement}
use Rattle.sv_wire.specs.declared.owed_head.Judgement.TheVariants.{Refused}
use Rattle.sv_wire.specs.declared.wire_fault.WireFault.TheVariants.{BadHead}
use Rattle.sv_wire.specs.Head.{begins_at_once, judge}
use Rattle.sv_wire.specs.Reads.{IsNoHead, has_too_many_lines, ReadsHead}
use Rattle.sv_wire.specs.Spans.{IsFieldAt, AreHeadSpans, ShowHead}
use Rattle.sv_wire.proofs.BoolLemmas.{MatchBool-from_false}

-- ---- lines

abbrev feeds : List ℕ → ℕ
feeds text = count_by (λ b. b == 10) text

feeds-append : (a b : List ℕ) → feeds (a ++ b) ≡ feeds a + feeds b
feeds-append a b = sum_by-append (λ x. cond (x == 10) 1 0) a b

feeds-end : (e : LineEnd) → feeds (print_end e) ≡ 1
feeds-end crlf = refl
feeds-end lf = refl

feeds-field : (f : Field) → 1 ≤ feeds (print_field f)
feeds-field f =
    omega (arith, feeds-append (f.name ++ 58 ∷ f.raw) (print_end f.end), feeds-end f.end)

feeds-fields : (fields : List Field) → length fields ≤ feeds (flat_map print_field fields)
feeds-fields [] = omega arith
feeds-fields (f ∷ fields) =
    omega (arith, feeds-append (print_field f) (flat_map print_field fields), feeds-field f, feeds-fields fields)

-- A head has a line for each field, and two more.
pub feeds-request : (h : RequestHead) → length h.fields + 2 ≤ feeds (print_request h)
unfolding print_request
feeds-request h =
    let line = print_blank h.blank ++ h.method ++ 32 ∷ h.target ++ 32 ∷ print_version h.minor in
    let start : List ℕ = print_blank h.blank ++ h.method ++ 32 ∷ h.target ++ 32 ∷ print_version h.minor ++ print_end h.line_end in
    omega (
      arith,
      feeds-append start (print_section h.fields h.last),
      feeds-append line (print_end h.line_end),
      feeds-append (flat_map print_field h.fields) (print_end h.last),
      feeds-fields h.fields,
      feeds-end h.line_end,
      feeds-end h.last,
    )

-- ---- lines of a head that is read

-- Bytes of a class without the line feed contain no line feed.
no_feed : (test : ℕ → Bool) → test 10 ≡ false → (bytes : List ℕ) → AllPass test bytes → feeds bytes ≡ 0
no_feed test none [] all = refl
no_feed test none (b ∷ bytes) all =
    let other : (b == 10) ≡ false = ne_eqb b 10 (λ same. true≢false (sym (subst (λ x. test x ≡ true) same (All-head (λ x. test x ≡ true) b bytes all)) ∙ none)) in
    omega (
      arith,
      sum_by-cons (λ x. cond (x == 10) 1 0) b bytes,
      ap {B = ℕ} (λ t. cond t 1 0) other,
      no_feed test none bytes (All-tail (λ x. test x ≡ true) b bytes all),
    )

feeds-behind : (b : ℕ) (bytes : List ℕ) → (b == 10) ≡ false → feeds (b ∷ bytes) ≡ feeds bytes
feeds-behind b bytes other = omega (arith, sum_by-cons (λ x. cond (x == 10) 1 0) b bytes, ap {B = ℕ} (λ t. cond t 1 0) other)

no_token_feed : (bytes : List ℕ) → IsToken bytes → feeds bytes ≡ 0
unfolding is_token_byte
no_token_feed bytes token = no_feed is_token_byte refl bytes token.1

one_feed : (f : Field) → IsField f → feeds (print_field f) ≡ 1
one_feed f is =
    omega (
      arith,
      feeds-append (f.name ++ 58 ∷ f.raw) (print_end f.end),
      feeds-append f.name (58 ∷ f.raw),
      feeds-behind 58 f.raw refl,
      feeds-end f.end,
      no_token_feed f.name is.name,
      no_feed is_value_byte refl f.raw is.raw,
    )

feed_each : (fields : List Field) → All IsField fields → feeds (flat_map print_field fields) ≡ length fields
feed_each [] all = refl
feed_each (f ∷ fields) all =
    omega (
      arith,
      feeds-append (print_field f) (flat_map print_field fields),
      one_feed f (All-head IsField f fields all),
      feed_each fields (All-tail IsField f fields all),
    )

feeds-version : (minor : ℕ) → minor ≤ 1 → feeds (print_version minor) ≡ 0
feeds-version zero known = refl
feeds-version (suc zero) known = refl
feeds-version (suc (suc minor)) known = absurd (omega arith)

no_blank : (ends : List LineEnd) (text : List ℕ) → begins_at_once (print_blank ends ++ text) ≡ true → print_blank ends ≡ []
no_blank [] text begins = refl
no_blank (crlf ∷ ends) text begins = absurd (cc)
no_blank (lf ∷ ends) text begins = absurd (cc)

lines_are : (h : RequestHead) → IsRequestHead h → print_blank h.blank ≡ [] → feeds (print_request h) ≡ length h.fields + 2
unfolding print_request
lines_are h is none =
    let line = print_blank h.blank ++ h.method ++ 32 ∷ h.target ++ 32 ∷ print_version h.minor in
    omega (
      arith,
      feeds-append (line ++ print_end h.line_end) (print_section h.fields h.last),
      feeds-append line (print_end h.line_end),
      feeds-append (print_blank h.blank ++ h.method ++ 32 ∷ h.target) (32 ∷ print_version h.minor),
      feeds-append (print_blank h.blank ++ h.method) (32 ∷ h.target),
      feeds-append (print_blank h.blank) h.method,
      ap feeds none,
      no_token_feed h.method is.method,
      feeds-behind 32 h.target refl,
      no_feed is_uri_byte refl h.target is.target.1,
      feeds-behind 32 (print_version h.minor) refl,
      feeds-version h.minor is.minor,
      feeds-end h.line_end,
      feeds-append (flat_map print_field h.fields) (print_end h.last),
      feed_each h.fields is.fields,
      feeds-end h.last,
    )

begins : (h : RequestHead) → begins_at_once (print_request h) ≡ true → print_blank h.blank ≡ []
unfolding print_request
begins h at_once =
    let rest : List ℕ = h.method ++ 32 ∷ h.target ++ 32 ∷ print_version h.minor ++ print_end h.line_end ++ print_section h.fields h.last in
    let parted : print_request h ≡ print_blank h.blank ++ rest = grind (arith, common_steps) in
    no_blank h.blank rest (subst (λ t. begins_at_once t ≡ true) parted at_once)

-- A text that begins at once with a head of few fields, and holds nothing else, does not have too many lines.
pub few_lines : (text : List ℕ) (h : RequestHead) → ReadsRequest text h [] → begins_at_once text ≡ true → length h.fields ≤ 128 → has_too_many_lines text ≡ false
few_lines text h reads at_once few =
    let same : text ≡ print_request h = reads.1 ∙ append-nil (print_request h) in
    let none = begins h (subst (λ t. begins_at_once t ≡ true) same at_once) in
    le-ltb 130 (feeds text) (omega (arith, ap feeds same, lines_are h reads.0 none, few))

-- ---- names

-- A name is shorter than the section that contains it.
name_fits : (fields : List Field) (last : LineEnd) → All (λ f. length f.name < length (print_section fields last)) fields
name_fits [] last = All-nil _
name_fits (f ∷ fields) last =
    let here : length f.name < length (print_section (f ∷ fields) last) =
    omega (
      arith,
      length-append f.name (58 ∷ f.raw),
      length-append (f.name ++ 58 ∷ f.raw) (print_end f.end),
      length-append (print_field f) (flat_map print_field fields),
      length-append (print_field f ++ flat_map print_field fields) (print_end last),
    ) in
    All-cons (λ g. length g.name < length (print_section (f ∷ fields) last)) f fields here
    (All-weaker (λ g. length g.name < length (print_section fields last)) (λ g. length g.name < length (print_section (f ∷ fields) last))
    (λ g short. omega (
      arith,
      length-append (print_field f) (flat_map print_field fields ++ print_end last),
      ap length (append_assoc (print_field f) (flat_map print_field fields) (print_end last)),
    ))
    fields (name_fits fields last))

section_fits : (h : RequestHead) → length (print_section h.fields h.last) ≤ length (print_request h)
unfolding print_request
section_fits h =
    omega (
      arith,
      length-append (print_blank h.blank ++ h.method ++ 32 ∷ h.target ++ 32 ∷ print_version h.minor ++ print_end h.line_end)
          (print_section h.fields h.last),
    )

-- ---- validity

same_token_byte : (b : ℕ) → is_token_byte b ≡ written.is_token_byte b
unfolding is_token_byte written.is_token_byte
same_token_byte b = refl

pub token_is : (bytes : List ℕ) → IsToken bytes → written.IsToken bytes
token_is bytes token = (token.0, λ k d inside. sym (same_token_byte (get_or bytes k d)) ∙ token.1 k d inside)

abbrev IsValid : List ℕ × List ℕ → Type 0
IsValid pair = IsFieldName pair.0 × IsFieldValue pair.1

fields_valid : (h : RequestHead) → All IsField h.fields → length (print_request h) ≤ 65536 → All (λ f. IsValid (name_and_value f)) h.fields
fields_valid h valid short k d inside =
    let f = get_or h.fields k d in
    let is = valid k d inside in (
      (token_is f.name is.name, omega (arith, name_fits h.fields h.last k d inside, section_fits h)),
      AllPass-trim_ows is_value_byte f.raw is.raw,
    )

-- ---- spans

-- The field with this name and value.
abbrev field_from : List ℕ × List ℕ → OwnField
field_from pair = record { name = written.lowercase pair.0; value = plain_value pair.1 }

map_twice : {X Y Z : Type 0} (g : Y → Z) (f : X → Y) (xs : List X) → map g (map f xs) ≡ map (λ x. g (f x)) xs
map_twice g f [] = refl
map_twice g f (x ∷ xs) = ap (λ zs. g (f x) ∷ zs) (map_twice g f xs)

module _ (text : List ℕ) (headers : List HeaderSpan) (line : RequestSpans) (h : RequestHead)
    (short : length text ≤ 65536) (within : IsRequestWithin text headers line) (at : IsRequestAt text headers line h) where
  pub shows_head : ShowHead text (take line.headers headers) line h
  shows_head = record {
    method = at.method;
    target = at.path;
    minor = at.version;
    fields = sym (map_twice field_from (header_bytes text) (take line.headers headers))
        ∙ ap (map field_from) at.fields ∙ map_twice field_from name_and_value h.fields;
  }

  valid_pairs : All IsValid (map (header_bytes text) (take line.headers headers))
  valid_pairs =
      subst (All IsValid) (sym at.fields)
      (All-map IsValid name_and_value h.fields
      (fields_valid h at.reads.0.fields (omega (arith, at.len, within.section.len_fits))))

  field_is : (k : ℕ) (d : HeaderSpan) → k < length (take line.headers headers) → IsFieldAt text (get_or (take line.headers headers) k d)
  field_is k d inside =
      let fits = within.section.headers_fit k d inside in
      let pair = subst IsValid (get_or-map (header_bytes text) (take line.headers headers) k d (header_bytes text d) inside)
      (valid_pairs k (header_bytes text d) (omega (arith, length-map (take line.headers headers) (header_bytes text)))) in
      record {
        within = ((fits.0.0, omega (arith, fits.0.1, within.section.len_fits)), (fits.1.0, omega (arith, fits.1.1, within.section.len_fits)));
        name = pair.0;
        value = pair.1;
      }

  pub are_head_spans : AreHeadSpans text (take line.headers headers) line
  are_head_spans = record {
    method = (within.method.0, omega (arith, within.method.1, within.section.len_fits));
    token = subst written.IsToken (sym at.method) (token_is h.method at.reads.0.method);
    target = (within.path.0, omega (arith, within.path.1, within.section.len_fits));
    fields = field_is;
  }

-- ---- the reading of a text

-- A head that takes the whole text.
pub reads_whole : (text : List ℕ) (headers : List HeaderSpan) (line : RequestSpans) (h : RequestHead)
    → IsRequestAt text headers line h → line.len ≡ length text → ReadsRequest text h []
reads_whole text headers line h at whole =
    subst (λ rest. ReadsRequest text h rest) (ap (λ n. drop n text) whole ∙ drop_all (length text) text (omega arith)) at.reads

-- A text that the parser does not read as a whole is no head.
pub no_head : (text : List ℕ) (headers : List HeaderSpan) (r : Result (Status RequestSpans) Error) (places : ℕ) → feeds text ≤ places + 2
    → FindsRequest text places headers r
    → ((line : RequestSpans) → r ≡ Ok (Complete line) → line.len ≡ length text → ⊥)
    → IsNoHead text
no_head text headers r places few finds part h reads = by_result r refl (finds h [] reads room)
  where
    same : text ≡ print_request h
    same = reads.1 ∙ append-nil (print_request h)

    room : length h.fields ≤ places
    room = omega (arith, feeds-request h, ap feeds same, few)

    by_result : (q : Result (Status RequestSpans) Error) → r ≡ q → IsCompleteAnd q (λ line. IsRequestAt text headers line h) → ⊥
    by_result (Ok (Complete line)) is at = part line is (at.len ∙ ap length (sym same))
    by_result (Ok Partial) is at = at
    by_result (Err e) is at = at

-- The judgement on a text that is a head.
pub judged : (text : List ℕ) (h : RequestHead) (r : Result Judgement NoMemory) → has_too_many_lines text ≡ false
    → ReadsRequest text h [] → GivesAnswer r (judge h) → IfOk r (ReadsHead text)
judged text h (Ok judgement) few reads gives = MatchBool-from_false (has_too_many_lines text) _ _ few (inl (h, reads, gives))
judged text h (Err e) few reads gives = tt

-- The judgement on a text that is no head.
pub refused : (text : List ℕ) → has_too_many_lines text ≡ false → IsNoHead text → ReadsHead text (Refused BadHead)
refused text few none = MatchBool-from_false (has_too_many_lines text) _ _ few (inr (none, refl))
