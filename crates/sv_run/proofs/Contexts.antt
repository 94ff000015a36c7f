-- Contexts that calls change one after another.
use Rattle.std.proofs.Common.{◌≡◌, ℕ, zero, suc, ◌<◌, ◌≤◌, List, [], ◌∷◌, ◌++◌, inl, inr, Result, Ok, Err, IfErr, length, map, slice_index_or, slice_set, refl, sym, ap, ◌∙◌, subst, arith, append-nil, append_assoc}
use Rattle.std.proofs.lemmas.List.{with_items_is}
use Rattle.std.specs.Vec.{with_items}
use Rattle.std.specs.declared.vec.Vec.{Vec}
use Rattle.sv_journal.specs.declared.entry.Entry.{Entry}
use Rattle.sv_run.specs.Contexts.{Conduct}
use Rattle.sv_policy.specs.declared.edit.Edit.{Edit}
use Rattle.sv_policy.specs.declared.edit_fault.EditFault.{EditFault}
use Rattle.sv_run.specs.Events.{Alters, AltersAll, ExpiresAll, MovesAll}
use Rattle.sv_run.specs.Lawful.{IsMotion, KeepsPath}

pub if_err : {T E P : Type 0} (result : Result T E) → P → IfErr result (λ _. P)
if_err (Ok done) holds = tt
if_err (Err fault) holds = holds

module _ {Context : Type 0} (conduct : Conduct Context) where
  module _ (moment : ℕ) where
    -- the expired sessions of the first `count` contexts end
    abbrev pub ExpiresTo : ℕ → List Context → List Entry → List Context → Type 0
    ExpiresTo zero before told after = (told ≡ []) × (after ≡ before)
    ExpiresTo (suc count) [] told after = (told ≡ []) × (after ≡ [])
    ExpiresTo (suc count) (context ∷ contexts) told after =
        (first : List Entry) × (later : List Entry) × (settled : Context) × (others : List Context)
        × conduct.Expires context moment first settled × ExpiresTo count contexts later others
        × (told ≡ first ++ later) × (after ≡ settled ∷ others)

    pub expires_next : (count : ℕ) (before after : List Context) (told more : List Entry) (old new : Context)
        → count < length after → old ≡ slice_index_or after count old → ExpiresTo count before told after → conduct.Expires old moment more new
        → ExpiresTo (suc count) before (told ++ more) (slice_set after count new)
    expires_next zero [] after told more old new within is so_far ends =
        absurd (below (subst (λ (cs : List Context). 0 < length cs) so_far.1 within))
      where
        below : 0 < 0 → ⊥
        below less = omega (arith, less)
    expires_next zero (context ∷ contexts) after told more old new within is so_far ends = (
      more,
      [],
      new,
      contexts,
      subst (λ c. conduct.Expires c moment more new) (is ∙ ap (λ cs. slice_index_or cs 0 old) so_far.1) ends,
      (refl, refl),
      ap (λ ts. ts ++ more) so_far.0 ∙ sym (append-nil more),
      ap (λ cs. slice_set cs 0 new) so_far.1,
    )
    expires_next (suc count) [] after told more old new within is so_far ends =
        absurd (below (subst (λ (cs : List Context). suc count < length cs) so_far.1 within))
      where
        below : suc count < 0 → ⊥
        below less = omega (arith, less)
    expires_next (suc count) (context ∷ contexts) after told more old new within is so_far ends = (
      so_far.0,
      so_far.1 ++ more,
      so_far.2,
      slice_set so_far.3 count new,
      so_far.4,
      expires_next count contexts so_far.3 so_far.1 more old new
          (below (subst (λ (cs : List Context). suc count < length cs) so_far.7 within))
          (is ∙ ap (λ cs. slice_index_or cs (suc count) old) so_far.7) so_far.5 ends,
      ap (λ ts. ts ++ more) so_far.6 ∙ append_assoc so_far.0 so_far.1 more,
      ap (λ cs. slice_set cs (suc count) new) so_far.7,
    )
      where
        below : suc count < suc (length so_far.3) → count < length so_far.3
        below less = omega (arith, less)

    pub expires_whole : (count : ℕ) (before after : List Context) (told : List Entry) → length before ≤ count → ExpiresTo count before told after
        → ExpiresAll conduct before moment told after
    expires_whole zero [] after told past so_far = so_far
    expires_whole zero (context ∷ contexts) after told past so_far = absurd (omega (arith, past))
    expires_whole (suc count) [] after told past so_far = so_far
    expires_whole (suc count) (context ∷ contexts) after told past so_far = (
      so_far.0,
      so_far.1,
      so_far.2,
      so_far.3,
      so_far.4,
      expires_whole count contexts so_far.3 so_far.1 (omega (arith, past)) so_far.5,
      so_far.6,
      so_far.7,
    )

  module _ (motion : IsMotion conduct) where
    pub moves_none : (contexts : List Context) → MovesAll conduct contexts contexts
    moves_none [] = refl
    moves_none (context ∷ contexts) = (context, contexts, motion.stands context, moves_none contexts, refl)

    pub moves_next : (count : ℕ) (before after : List Context) (old new : Context)
        → count < length after → old ≡ slice_index_or after count old → MovesAll conduct before after → conduct.Moves old new
        → MovesAll conduct before (slice_set after count new)
    moves_next count [] after old new within is so_far moves =
        absurd (below (subst (λ (cs : List Context). count < length cs) so_far within))
      where
        below : count < 0 → ⊥
        below less = omega (arith, less)
    moves_next zero (context ∷ contexts) after old new within is so_far moves = (
      new,
      so_far.1,
      motion.goes_on context so_far.0 new so_far.2
          (subst (λ c. conduct.Moves c new) (is ∙ ap (λ cs. slice_index_or cs 0 old) so_far.4) moves),
      so_far.3,
      ap (λ cs. slice_set cs 0 new) so_far.4,
    )
    moves_next (suc count) (context ∷ contexts) after old new within is so_far moves = (
      so_far.0,
      slice_set so_far.1 count new,
      so_far.2,
      moves_next count contexts so_far.1 old new
          (below (subst (λ (cs : List Context). suc count < length cs) so_far.4 within))
          (is ∙ ap (λ cs. slice_index_or cs (suc count) old) so_far.4) so_far.3 moves,
      ap (λ cs. slice_set cs (suc count) new) so_far.4,
    )
      where
        below : suc count < suc (length so_far.1) → count < length so_far.1
        below less = omega (arith, less)

    pub moves_join : (before between after : List Context) → MovesAll conduct before between → MovesAll conduct between after
        → MovesAll conduct before after
    moves_join [] between after first second = subst (λ (cs : List Context). MovesAll conduct cs after) first second
    moves_join (context ∷ contexts) between after first second =
        let later = subst (λ (cs : List Context). MovesAll conduct cs after) first.4 second in (
          later.0,
          later.1,
          motion.goes_on context first.0 later.0 first.2 later.2,
          moves_join contexts first.1 later.1 first.3 later.3,
          later.4,
        )

    -- contexts changed by calls, and then perhaps edited, are altered
    pub moves_alter : (before after : List Context) → MovesAll conduct before after → AltersAll conduct before after
    moves_alter [] after moves = moves
    moves_alter (context ∷ contexts) after moves = (moves.0, moves.1, inl moves.2, moves_alter contexts moves.1 moves.3, moves.4)

    pub alters_none : (contexts : List Context) → AltersAll conduct contexts contexts
    alters_none contexts = moves_alter contexts contexts (moves_none contexts)

    alters_on : (before between after : Context) → conduct.Moves before between → Alters conduct between after → Alters conduct before after
    alters_on before between after first (inl moves) = inl (motion.goes_on before between after first moves)
    alters_on before between after first (inr edits) =
        inr (edits.0, edits.1, edits.2, motion.goes_on before between edits.0 first edits.3, edits.4)

    pub alters_behind : (before between after : List Context) → MovesAll conduct before between → AltersAll conduct between after
        → AltersAll conduct before after
    alters_behind [] between after first second = subst (λ (cs : List Context). AltersAll conduct cs after) first second
    alters_behind (context ∷ contexts) between after first second =
        let later = subst (λ (cs : List Context). AltersAll conduct cs after) first.4 second in (
          later.0,
          later.1,
          alters_on context first.0 later.0 first.2 later.2,
          alters_behind contexts first.1 later.1 first.3 later.3,
          later.4,
        )

    pub alters_at : (place : ℕ) (contexts : List Context) (old new : Context) (edit : Edit) (answer : Result ℕ EditFault)
        → place < length contexts → old ≡ slice_index_or contexts place old → conduct.Edits old edit answer new
        → AltersAll conduct contexts (slice_set contexts place new)
    alters_at place [] old new edit answer within is edits = absurd (omega (arith, within))
    alters_at zero (context ∷ contexts) old new edit answer within is edits =
        (new, contexts, inr (context, edit, answer, motion.stands context, subst (λ c. conduct.Edits c edit answer new) is edits), alters_none contexts, refl)
    alters_at (suc place) (context ∷ contexts) old new edit answer within is edits =
        (context, slice_set contexts place new, inl (motion.stands context), alters_at place contexts old new edit answer (omega (arith, within)) is edits, refl)

  -- each context keeps its path
  pub paths_kept : (path_of : Context → List ℕ) → KeepsPath path_of conduct → (before after : List Context) → MovesAll conduct before after
      → map path_of after ≡ map path_of before
  paths_kept path_of keeps [] after moves = ap (map path_of) moves
  paths_kept path_of keeps (context ∷ contexts) after moves =
      ap (map path_of) moves.4
      ∙ (λ i. keeps context moves.0 moves.2 i ∷ paths_kept path_of keeps contexts moves.1 moves.3 i)

  -- the contexts of a borrowed vector also keep their paths
  module _ {Z : Type 0} (held : Vec Context Z) (given after : List Context) (all : length after ≡ held.len) (is : given ≡ held.items) where
    pub moves_lent : MovesAll conduct given after → MovesAll conduct held.items (with_items held after).items
    moves_lent moves =
        subst (λ end. MovesAll conduct held.items end) (sym (with_items_is held after all)) (subst (λ start. MovesAll conduct start after) is moves)

    pub index_kept : (path_of : Context → List ℕ) → KeepsPath path_of conduct → (index : List (List ℕ)) → index ≡ map path_of held.items
        → MovesAll conduct given after → index ≡ map path_of (with_items held after).items
    index_kept path_of keeps index known moves = known ∙ sym (paths_kept path_of keeps held.items (with_items held after).items (moves_lent moves))
