-- Properties of parts.
use Rattle.std.proofs.Common.{◌≡◌, ◌<◌, ◌≤◌, ℕ, ◌+◌, ◌-◌, Bool, true, false, List, [], ◌∷◌, ◌++◌, refl, sym, ap, ◌∙◌, subst, inl, inr, append_assoc, append-nil, length, take, get_or, arith, ltb}
use Rattle.std.proofs.lemmas.List.{get_or-take, length-append, length-take-le}
use Rattle.std.proofs.lemmas.Bool.{ltb-true, ltb-false}
use Rattle.std.specs.List.{AllByRecursion}
use Rattle.sv_connection.specs.Pieces.{ends_empty_line}
use Rattle.sv_streams.specs.Calls.{AreMade, Call, Gave, Making, ReadFailed, Took, WriteFailed, failures, given, taken}
use Rattle.sv_listening.specs.SocketLaws.{GivesPart}
use Rattle.sv_listening.specs.Parts.{InParts, IsPart, MakesParts, is_line_end}

-- Only line ends follow the first empty line, up to the cut.
pub cut_behind : (bytes : List ℕ) (first end : ℕ) → ((place : ℕ) → place + 1 < first → ends_empty_line bytes place ≡ false)
    → ((later : ℕ) → first ≤ later → later < end → is_line_end (get_or bytes later 0) ≡ true)
    → (place later : ℕ) → ends_empty_line bytes place ≡ true → place < later → later < end → is_line_end (get_or bytes later 0) ≡ true
cut_behind bytes first end none ends place later is before within = by (ltb later first) refl
  where
    by : (b : Bool) → ltb later first ≡ b → is_line_end (get_or bytes later 0) ≡ true
    by true inside =
        let below : later < first = ltb-true later first inside in
        let not : ends_empty_line bytes place ≡ false = none place (omega arith) in
        absurd (cc (is, not))
    by false outside = let past : first ≤ later = ltb-false later first outside in ends later past within

-- One more line end.
pub ends_more : (bytes : List ℕ) (first end : ℕ) → ((later : ℕ) → first ≤ later → later < end → is_line_end (get_or bytes later 0) ≡ true)
    → is_line_end (get_or bytes end 0) ≡ true → (later : ℕ) → first ≤ later → later < end + 1 → is_line_end (get_or bytes later 0) ≡ true
ends_more bytes first end ends is later past within = by (ltb later end) refl
  where
    by : (b : Bool) → ltb later end ≡ b → is_line_end (get_or bytes later 0) ≡ true
    by true inside = ends later past (ltb-true later end inside)
    by false outside =
        let not : end ≤ later = ltb-false later end outside in
        let same : later ≡ end = omega arith in
        let P : ℕ → Type 0 = λ n. is_line_end (get_or bytes n 0) ≡ true in
        subst P (sym same) is

-- An empty line ends at a place of a front if it does so in all bytes, and only then.
front_ends : (bytes : List ℕ) (count place : ℕ) → place < count → ends_empty_line (take count bytes) place ≡ ends_empty_line bytes place
front_ends bytes count place within =
    let here : get_or (take count bytes) place 0 ≡ get_or bytes place 0 = get_or-take count bytes place 0 within in
    let before : get_or (take count bytes) (place - 1) 0 ≡ get_or bytes (place - 1) 0 = get_or-take count bytes (place - 1) 0 (omega arith) in
    let further : get_or (take count bytes) (place - 1 - 1) 0 ≡ get_or bytes (place - 1 - 1) 0 = get_or-take count bytes (place - 1 - 1) 0 (omega arith) in
    rw (here, before, further) refl

-- A front of the bytes, up to the cut or shorter, is a part.
pub is_part : (bytes : List ℕ) (end count : ℕ) → 0 < count → count ≤ end → end ≤ length bytes
    → ((place later : ℕ) → ends_empty_line bytes place ≡ true → place < later → later < end → is_line_end (get_or bytes later 0) ≡ true)
    → IsPart (take count bytes)
is_part bytes end count some within inside cut =
    let long : length (take count bytes) ≡ count = length-take-le count bytes (omega arith) in (
      omega arith,
      (λ place later is before below.
          let short : later < count = omega arith in
          let same : get_or (take count bytes) later 0 ≡ get_or bytes later 0 = get_or-take count bytes later 0 short in
          let ends : ends_empty_line bytes place ≡ true = sym (front_ends bytes count place (omega arith)) ∙ is in
          ap is_line_end same ∙ cut place later ends before (omega arith)),
    )

module _ {S : Type 0} (makes : Making S) where
  -- Calls of the stream below, for the calls of one that is read in parts.
  pub record Below (before after : InParts S) (calls : List Call) : Type 0 where
    pub parts : AllByRecursion GivesPart calls
    pub below : List Call
    pub made : AreMade makes before.stream below after.stream
    pub same : given calls ++ after.kept ≡ before.kept ++ given below
    pub taken_same : taken calls ≡ taken below
    pub failed_same : failures calls ≡ failures below

  some_whole : (part kept bytes : List ℕ) → bytes ≡ part ++ kept → 0 < length part → 0 < length bytes
  some_whole part kept bytes cut some =
      let long : length bytes ≡ length part + length kept = ap length cut ∙ length-append part kept in omega arith

  joined : (part more end kept rest bytes : List ℕ) → bytes ≡ part ++ kept → more ++ end ≡ kept ++ rest → (part ++ more) ++ end ≡ bytes ++ rest
  joined part more end kept rest bytes cut same =
      append_assoc part more end ∙ ap (λ tail. part ++ tail) same ∙ sym (append_assoc part kept rest) ∙ ap (λ front. front ++ rest) (sym cut)

  zero_plus : (n : ℕ) → 0 + n ≡ n
  zero_plus n = omega arith

  pub parts_below : (before after : InParts S) (calls : List Call) → AreMade (MakesParts makes) before calls after → Below before after calls
  parts_below before after [] same = record {
    parts = tt;
    below = [];
    made = ap (λ at. at.stream) same;
    same = ap (λ at. at.kept) same ∙ sym (append-nil before.kept);
    taken_same = refl;
    failed_same = refl;
  }
  parts_below before after (Gave part ∷ calls) (between, (bytes, inl (some, is, stays), cut, gives), later) =
      let rest = parts_below between after calls later in
      let P : S → Type 0 = λ at. AreMade makes at rest.below after.stream in
      record {
        parts = ((λ longer. gives (some_whole part between.kept bytes cut longer)), rest.parts);
        below = rest.below;
        made = subst P stays rest.made;
        same = joined part (given calls) after.kept between.kept (given rest.below) bytes cut rest.same ∙ ap (λ front. front ++ given rest.below) is;
        taken_same = rest.taken_same;
        failed_same = zero_plus (failures calls) ∙ rest.failed_same;
      }
  parts_below before after (Gave part ∷ calls) (between, (bytes, inr (none, read), cut, gives), later) =
      let rest = parts_below between after calls later in
      record {
        parts = ((λ longer. gives (some_whole part between.kept bytes cut longer)), rest.parts);
        below = Gave bytes ∷ rest.below;
        made = (between.stream, read, rest.made);
        same =
            joined part (given calls) after.kept between.kept (given rest.below) bytes cut rest.same
            ∙ ap (λ front. front ++ (bytes ++ given rest.below)) (sym none);
        taken_same = rest.taken_same;
        failed_same = ap (λ count. 0 + count) rest.failed_same;
      }
  parts_below before after (ReadFailed ∷ calls) (between, (none, still, read), later) =
      let rest = parts_below between after calls later in
      record {
        parts = (tt, rest.parts);
        below = ReadFailed ∷ rest.below;
        made = (between.stream, read, rest.made);
        same = rest.same ∙ ap (λ front. front ++ given rest.below) (still ∙ sym none);
        taken_same = rest.taken_same;
        failed_same = ap (λ count. 1 + count) rest.failed_same;
      }
  parts_below before after (Took bytes ∷ calls) (between, (stays, write), later) =
      let rest = parts_below between after calls later in
      record {
        parts = (tt, rest.parts);
        below = Took bytes ∷ rest.below;
        made = (between.stream, write, rest.made);
        same = rest.same ∙ ap (λ front. front ++ given rest.below) stays;
        taken_same = ap (λ more. bytes ++ more) rest.taken_same;
        failed_same = ap (λ count. 0 + count) rest.failed_same;
      }
  parts_below before after (WriteFailed ∷ calls) (between, (stays, write), later) =
      let rest = parts_below between after calls later in
      record {
        parts = (tt, rest.parts);
        below = WriteFailed ∷ rest.below;
        made = (between.stream, write, rest.made);
        same = rest.same ∙ ap (λ front. front ++ given rest.below) stays;
        taken_same = rest.taken_same;
        failed_same = ap (λ count. 1 + count) rest.failed_same;
      }
