-- The walk over the segments of a path gives its canonical path.
use Rattle.std.proofs.Common.{ℕ, List, [], ◌∷◌, IsUtf8, refl, subst, lit<, ◌≡◌, ◌+◌, ◌<◌, ◌==◌, ◌++◌, map, length, length-drop, drop, append-nil, append_assoc, Option, Some, None, MatchOption, ap, ◌∙◌, arith, false, Ok, Err, sym}
use Rattle.std.specs.List.{All, flat_map, position_or_len}
use Rattle.std.specs.Str.{byte}
use Rattle.std.proofs.lemmas.List.Elements.{All-head, All-tail, All-weaker, All-filter}
use Rattle.std.proofs.lemmas.Str.{IsUtf8-nil, IsUtf8-append, IsUtf8-encode, encode_ascii, IsUtf8-from_is_utf8}
use Rattle.sv_uri.proofs.TargetLemmas.{slashed, holds, segments_behind, between_slashes-first, behind-other, raw_segments-slash}
use Rattle.std.proofs.lemmas.Bool.{cond_both}
use Rattle.std.proofs.lemmas.List.{map_push}
use Rattle.std.proofs.lemmas.List.Concat.{flat_map-append}
use Rattle.sv_uri.specs.declared.fault.CanonFault.{CanonFault}
use Rattle.sv_uri.specs.declared.fault.CanonFault.TheVariants.{Path, NoMemory}
use Rattle.sv_uri.specs.declared.fault.PathFault.{PathFault}
use Rattle.sv_uri.specs.declared.walk.Walk.{Walk}
use Rattle.sv_text.specs.Faults.{first_or}
use Rattle.sv_uri.specs.Fault.{path_fault}
use Rattle.sv_uri.specs.Target.{before, behind, between_slashes, visible_query}
use Rattle.sv_uri.specs.Segment.{name_of, segment_faults}
use Rattle.sv_uri.specs.Walked.{HasSeen, shown}
use Rattle.std.specs.Option.{option_map}
use Rattle.sv_uri.specs.declared.path.Canon.{Canon}
use Rattle.sv_uri.specs.DotSegments.{kept}
use Rattle.sv_uri.specs.Canonical.{canonical, path_faults, path_text}
use Rattle.sv_uri.proofs.DotSegmentLemmas.{All-remaining}
use Rattle.sv_uri.proofs.SegmentLemmas.{IsPlain, All-IsPlain}

pub IsUtf8-slash : IsUtf8 (byte "/" ∷ [])
IsUtf8-slash = subst IsUtf8 (encode_ascii 47 (lit< tt)) (IsUtf8-encode 47 refl)

pub IsUtf8-slashed : (names : List (List ℕ)) → All IsUtf8 names → IsUtf8 (slashed names)
IsUtf8-slashed [] all = IsUtf8-nil
IsUtf8-slashed (name ∷ names) all =
    IsUtf8-append (47 ∷ name) (slashed names) (IsUtf8-append (47 ∷ []) name IsUtf8-slash (All-head IsUtf8 name names all)) (IsUtf8-slashed names (All-tail IsUtf8 name names all))

-- The walk has entered the first segments of the path, which have no fault, and this rest is left.
pub record HasRead (walk : Walk) (path : List ℕ) (rest : Option (List ℕ)) : Type 0 where
  pub seen : List (List ℕ)
  pub whole : between_slashes path ≡ seen ++ segments_behind rest
  pub faultless : flat_map segment_faults seen ≡ []
  pub walked : HasSeen walk (map name_of seen)

pub HasRead-none : (walk : Walk) (path : List ℕ) → HasSeen walk [] → HasRead walk path (Some path)
HasRead-none walk path walked = record { seen = []; whole = refl; faultless = refl; walked = walked }

-- The segments of the path, if the rest begins with one more.
next_whole : (walk : Walk) (path text : List ℕ) (read : HasRead walk path (Some text)) → between_slashes path ≡ read.seen ++ (before (byte "/") text ∷ segments_behind (behind (byte "/") text))
next_whole walk path text read = read.whole ∙ ap (λ parts. read.seen ++ parts) (between_slashes-first text)

pub HasRead-more : (walk next : Walk) (path text name : List ℕ) (rest : Option (List ℕ)) (segment : List ℕ) → segment ≡ before (byte "/") text → rest ≡ behind (byte "/") text → segment_faults segment ≡ [] → name ≡ name_of segment → ((seen : List (List ℕ)) → HasSeen walk seen → HasSeen next (seen ++ name ∷ [])) → HasRead walk path (Some text) → HasRead next path rest
HasRead-more walk next path text name rest segment is_first is_rest none is_name enters read = record {
  seen = read.seen ++ segment ∷ [];
  whole = rw (is_first, is_rest, append_assoc) (next_whole walk path text read);
  faultless = flat_map-append segment_faults read.seen (segment ∷ []) ∙ rw (read.faultless, none) refl;
  walked = rw (map_push name_of read.seen segment, ← is_name) (enters (map name_of read.seen) read.walked);
}

-- The first fault stays the first if more faults follow, whatever the answer without faults is.
first_or-more : {A B : Type 0} (faults more : List PathFault) (a : A) (b : B) (fault : PathFault) → first_or faults a ≡ Err fault → first_or (faults ++ more) b ≡ Err fault
first_or-more [] more a b fault given = cc
first_or-more (first ∷ faults) more a b fault given = cc

-- The first fault of the next segment is the first of the path.
pub first_of_next : (walk : Walk) (path text segment : List ℕ) (e : CanonFault) → segment ≡ before (byte "/") text → HasRead walk path (Some text) → MatchOption (path_fault e) (Unit {0}) (λ fault. first_or (segment_faults segment) (name_of segment) ≡ Err fault) → MatchOption (path_fault e) (Unit {0}) (λ fault. first_or (flat_map segment_faults (between_slashes path)) (map name_of (between_slashes path)) ≡ Err fault)
first_of_next walk path text segment (Path fault) is_first read said =
    let all : flat_map segment_faults (between_slashes path) ≡ segment_faults segment ++ flat_map segment_faults (segments_behind (behind (byte "/") text)) =
    ap (flat_map segment_faults) (next_whole walk path text read) ∙ flat_map-append segment_faults read.seen _ ∙ rw (read.faultless, is_first) refl
    in
    rw all (first_or-more (segment_faults segment) _ (name_of segment) (map name_of (between_slashes path)) fault said)
first_of_next walk path text segment NoMemory is_first read said = tt

pub HasRead-all : (walk : Walk) (path : List ℕ) (rest : Option (List ℕ)) → rest ≡ None → HasRead walk path rest → (flat_map segment_faults (between_slashes path) ≡ []) × HasSeen walk (map name_of (between_slashes path))
HasRead-all walk path rest ended read =
    let all : between_slashes path ≡ read.seen = read.whole ∙ rw ended (append-nil read.seen) in
    (rw all read.faultless, rw all read.walked)

-- The length of the rest, with the slash before it.
abbrev pub size_of_rest : Option (List ℕ) → ℕ
size_of_rest None = 0
size_of_rest (Some text) = length text + 1

pub size_of_rest-behind : (c : ℕ) (text : List ℕ) → size_of_rest (behind c text) < length text + 1
size_of_rest-behind c [] = omega arith
size_of_rest-behind c (b ∷ text) =
    cond_both (holds c (b ∷ text)) (Some (drop (position_or_len (λ x. x == c) (b ∷ text) + 1) (b ∷ text))) None (λ rest. size_of_rest rest < length (b ∷ text) + 1)
    (λ _. simp length-drop (omega arith)) (λ _. omega arith)

-- The names of a path without faults are texts.
pub names_are_texts : (walk : Walk) (segments : List (List ℕ)) → flat_map segment_faults segments ≡ [] → HasSeen walk (map name_of segments) → All IsUtf8 (shown walk.names.items)
names_are_texts walk segments none walked =
    let names = map name_of segments in
    let texts = All-weaker IsPlain IsUtf8 (λ name plain. IsUtf8-from_is_utf8 name plain.utf8) names (All-IsPlain segments none) in
    subst (All IsUtf8) (sym walked.left) (All-remaining IsUtf8 (kept names) (All-filter _ IsUtf8 names texts))

-- If an answer is given, there is no fault.
pub answered : {A : Type 0} (faults : List PathFault) (a b : A) → first_or faults a ≡ Ok b → (faults ≡ []) × (a ≡ b)
answered [] a b given = (refl, cc)
answered (fault ∷ faults) a b given = cc

pub first_or-err : {A B : Type 0} (faults : List PathFault) (a : A) (b : B) (fault : PathFault) → first_or faults a ≡ Err fault → first_or faults b ≡ Err fault
first_or-err [] a b fault given = cc
first_or-err (first_fault ∷ faults) a b fault given = cc

-- The path and the query of a target that begins with a slash.
abbrev pub parts_of_relative : List ℕ → Canon
parts_of_relative relative = record { path = path_text (between_slashes (before (byte "?") relative)); query = option_map visible_query (behind (byte "?") relative) }

canonical-slash : (relative : List ℕ) → holds (byte "#") (byte "/" ∷ relative) ≡ false → canonical (byte "/" ∷ relative) ≡ first_or (path_faults (between_slashes (before (byte "?") relative))) (parts_of_relative relative)
canonical-slash relative none = rw (none, raw_segments-slash relative, behind-other 63 47 relative refl) refl

-- A fault of the path is the fault of the target.
pub fault_answer : (target relative path : List ℕ) (e : CanonFault) → holds (byte "#") target ≡ false → target ≡ byte "/" ∷ relative → path ≡ before (byte "?") relative → MatchOption (path_fault e) (Unit {0}) (λ fault. first_or (path_faults (between_slashes path)) (path_text (between_slashes path)) ≡ Err fault) → MatchOption (path_fault e) (Unit {0}) (λ fault. canonical target ≡ Err fault)
fault_answer target relative path (Path fault) none slash is_path said =
    let own = first_or-err (path_faults (between_slashes path)) _ (parts_of_relative relative) fault said in
    rw slash (canonical-slash relative (rw slash at none) ∙ rw is_path at own)
fault_answer target relative path NoMemory none slash is_path said = tt

-- The path and the query are the answer for the target.
pub target_answer : (target relative path text : List ℕ) (query : Option (List ℕ)) → holds (byte "#") target ≡ false → target ≡ byte "/" ∷ relative → path ≡ before (byte "?") relative → first_or (path_faults (between_slashes path)) (path_text (between_slashes path)) ≡ Ok text → query ≡ option_map visible_query (behind (byte "?") relative) → canonical target ≡ Ok (record { path = text; query = query })
target_answer target relative path text query none slash is_path said is_query =
    let (no_fault, is_text) = answered (path_faults (between_slashes path)) _ text said in
    rw slash
    (canonical-slash relative (rw slash at none)
    ∙ ap (λ faults. first_or faults (parts_of_relative relative)) (rw is_path at no_fault)
    ∙ ap (λ (t : List ℕ). Ok (record { path = t; query = option_map visible_query (behind 63 relative) })) (rw is_path at is_text)
    ∙ ap (λ (q : Option (List ℕ)). Ok (record { path = text; query = q })) (sym is_query))
