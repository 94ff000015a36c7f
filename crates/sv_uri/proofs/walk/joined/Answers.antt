use Rattle.std.proofs.Common.{◌≡◌, ℕ, ◌+◌, ◌<◌, List, [], ◌∷◌, ◌++◌, length, map, take, get_or, append_assoc, append-nil, sym, ap, ◌∙◌, subst, IsUtf8}
use Rattle.std.specs.List.{All}
use Rattle.std.proofs.lemmas.List.{map_push, take_more, get_or-map, length-map}
use Rattle.std.proofs.lemmas.List.Elements.{All-get_or}
use Rattle.std.proofs.lemmas.List.Concat.{flat_map-append}
use Rattle.sv_uri.specs.Name.{bytes_of}
use Rattle.sv_uri.proofs.TargetLemmas.{slashed}
use Rattle.sv_uri.proofs.walk.joined.Goals as goal

-- One more slash and name.
slashed_more : {X : Type 0} (bytes_of : X → List ℕ) (names : List X) (i : ℕ) (name : X) (path pushed after bytes : List ℕ) → i < length names → name ≡ get_or names i name → path ≡ slashed (map bytes_of (take i names)) → pushed ≡ path ++ 47 ∷ [] → bytes ≡ bytes_of name → after ≡ pushed ++ bytes → after ≡ slashed (map bytes_of (take (i + 1) names))
slashed_more bytes_of names i name path pushed after bytes within at was push is_bytes extend =
    let more : take (i + 1) names ≡ take i names ++ name ∷ [] = take_more names i name within ∙ ap (λ x. take i names ++ x ∷ []) (sym at) in
    rw (extend, push, is_bytes, was, more, map_push bytes_of (take i names) name, flat_map-append (λ x. 47 ∷ x) (map bytes_of (take i names)) (bytes_of name ∷ []))
    (append_assoc (slashed (map bytes_of (take i names))) (47 ∷ []) (bytes_of name) ∙ ap (λ x. slashed (map bytes_of (take i names)) ++ 47 ∷ x) (sym (append-nil (bytes_of name))))

-- Each name is a text.
name_is_text : {X : Type 0} (bytes_of : X → List ℕ) (names : List X) (i : ℕ) (name : X) → All IsUtf8 (map bytes_of names) → i < length names → name ≡ get_or names i name → IsUtf8 (bytes_of name)
name_is_text bytes_of names i name all within at =
    subst IsUtf8 (get_or-map bytes_of names i name (bytes_of name) within ∙ ap bytes_of (sym at))
    (All-get_or IsUtf8 (map bytes_of names) i (bytes_of name) (rw (length-map names bytes_of) within) all)

pub as_str-requires : goal.as_str-requires
as_str-requires c = name_is_text bytes_of c.args.names.now c.loop-name.name-index c.name-item.result c.requires c.loop-name-test.true c.name-item.is

pub loop-name-preserved : goal.loop-name-preserved
loop-name-preserved c =
    slashed_more bytes_of c.args.names.now c.loop-name.name-index c.name-item.result _ _ _ _ c.loop-name-test.true c.name-item.is c.loop-name.invariant c.in_ok-push_str.ensures.pushed c.as_str.ensures c.in_ok-push_str-2.ensures.pushed
