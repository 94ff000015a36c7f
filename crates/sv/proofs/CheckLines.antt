-- The lines of faults, one after another.
use Rattle.std.proofs.Common.{◌≡◌, ◌∙◌, ℕ, ◌+◌, ◌<◌, ◌≤◌, List, [], ◌∷◌, ◌++◌, length, take, get_or, ltb, is_some, slice_get, true, false, Option, Some, None, IfSome, option_copied, refl, rules, subst, sym, ap, append-nil, append_assoc}
use denote.Ref.{Bor}
use Rattle.std.proofs.lemmas.List.{take_more}
use Rattle.std.proofs.lemmas.Option.{slice_get-get_or, slice_get_past}
use Rattle.sv_deployments.specs.declared.check.CheckedContext.{CheckedContext}
use Rattle.sv_program.specs.declared.command_fault.CommandFault.{CommandFault}
use Rattle.sv_program.specs.declared.command_fault.CommandFault.TheVariants as fault
use Rattle.sv_journal.specs.declared.start_code.NewCode.TheVariants.{TooManyContexts}
use Rattle.sv.specs.CheckCommand.{AreLines, AreLinesOf, refused, refused_context}
use Rattle.sv_container.specs.declared.container.TheConstants.{MAX_CONTEXTS}

-- the lines of one more fault
pub more_lines : (front : List CommandFault) (last : CommandFault) (text own next : List ℕ) → AreLines front text → AreLinesOf last own → next ≡ text ++ own
    → AreLines (front ++ last ∷ []) next
more_lines [] last text own next are is same = (own, [], is, refl, same ∙ ap (λ t. t ++ own) are ∙ sym (append-nil own))
more_lines (found ∷ rest) last text own next (first, others, shown, are, joined) is same =
    (first, others ++ own, shown, more_lines rest last others own (others ++ own) are is refl, same ∙ ap (λ t. t ++ own) joined ∙ append_assoc first others own)

pub one_more : (faults : List CommandFault) (i : ℕ) (fault : CommandFault) → i < length faults → fault ≡ get_or faults i fault
    → (text next : List ℕ) → AreLines (take i faults) text → ((own : List ℕ) × AreLinesOf fault own × (next ≡ text ++ own)) → AreLines (take (i + 1) faults) next
one_more faults i fault within at text next are pushed =
    let P : List CommandFault → Type 0 = λ front. AreLines front next in
    let Q : CommandFault → Type 0 = λ last. AreLines (take i faults ++ last ∷ []) next in
    subst P (sym (take_more faults i fault within)) (subst Q at (more_lines (take i faults) fault text pushed.0 next are pushed.1 pushed.2))

past : (place size : ℕ) → false ≡ ltb place size → size ≤ place
past place size h = search (rules, h)

inside : (place size : ℕ) → true ≡ ltb place size → place < size
inside place size h = search (rules, h)

copied : {X : Type 0} (items : List X) (place : ℕ) (found : Option (Bor X)) → is_some found ≡ ltb place (length items)
    → IfSome found (λ item. item.now ≡ get_or items place item.now) → slice_get items place ≡ option_copied found
copied items place None some is = slice_get_past items place (past place (length items) some)
copied items place (Some item) some is = slice_get-get_or items place item.now (inside place (length items) some) ∙ ap Some (sym is)

module _ (contexts : List CheckedContext) (found : Option (Bor CheckedContext))
    (some : is_some found ≡ ltb MAX_CONTEXTS (length contexts)) (is : IfSome found (λ context. context.now ≡ get_or contexts MAX_CONTEXTS context.now)) where
  -- there is no context beyond the limit
  pub none_refused : (before : List CommandFault) → found ≡ None → before ≡ before ++ refused contexts
  none_refused before same =
      let none : slice_get contexts MAX_CONTEXTS ≡ None = copied contexts MAX_CONTEXTS found some is ∙ ap option_copied same in
      sym (append-nil before) ∙ ap (λ o. before ++ refused_context o) (sym none)

  -- the context beyond the limit is refused
  pub one_refused : (context : Bor CheckedContext) (before after : List CommandFault) (path : List ℕ) → found ≡ Some context → path ≡ context.now.path
      → after ≡ before ++ fault.Start TooManyContexts path ∷ [] → after ≡ before ++ refused contexts
  one_refused context before after path same own pushed =
      let here : slice_get contexts MAX_CONTEXTS ≡ Some context.now = copied contexts MAX_CONTEXTS found some is ∙ ap option_copied same in
      pushed ∙ ap (λ p. before ++ fault.Start TooManyContexts p ∷ []) own ∙ ap (λ o. before ++ refused_context o) (sym here)
