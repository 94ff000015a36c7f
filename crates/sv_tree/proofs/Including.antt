-- Includes change neither the status nor the header fields.
use Rattle.std.proofs.Common.{◌≡◌, ℕ, Bool, true, false, List, refl, sym, ap, ◌∙◌}
use Rattle.sv_component.specs.Runs.{Record}
use Rattle.sv_exchange.specs.Dispatches.{Leaves, entered, is_within_include}
use Rattle.sv_exchange.specs.Keeping.{SameHead}
use Rattle.sv_mapping.specs.declared.kind.Kind.{Kind}
use Rattle.sv_mapping.specs.declared.kind.Kind.TheVariants as kinds
use Rattle.sv_tree.specs.Laws.{IncludesKeep, is_included}
use Rattle.sv_tree.specs.Site.{Site, begun, paths_in}
use Rattle.sv_tree.specs.State.{Exchange, State, on_exchange}
use Rattle.sv_tree.proofs.Changing.{emptied_head, emptied_unchanged, made_unchanged, same_dispatches, still_within, called_unchanged, unchanged, within_begun, within_inner}
use Rattle.sv_tree.proofs.Doing.{not_true}
use Rattle.sv_tree.proofs.Keeping.{FilterSteps, Opens, Steps, away_unchanged, tree_gives, within_keeps}
use Rattle.sv_uri.specs.declared.path.Canon.{Canon}

abbrev Includes : ℕ → State → List Record → State → Bool → Type 0
Includes room x r y b =
    (b ≡ true → y.exchange.dispatches ≡ x.exchange.dispatches) × (is_within_include x.exchange ≡ true → SameHead x.exchange y.exchange)

head_then : (x y z : Exchange) → SameHead x y → SameHead y z → SameHead x z
head_then x y z one two = (two.0 ∙ one.0, two.1 ∙ one.1)

module _ (site : Site) where
  -- An include, or a dispatch within one, keeps the status and the header fields.
  abbrev Leaves_head : Kind → State → List Record → State → Bool → Type 0
  Leaves_head kind x r y b = is_included kind x.exchange ≡ true → SameHead x.exchange y.exchange

  begun_head : (kind : Kind) (canon : Canon) (x : Exchange) → SameHead x (begun site kind canon x)
  begun_head kind canon x = emptied_head kind (entered kind (paths_in site canon x) x)

  inside_head : (room : ℕ) (kind : Kind) (canon : Canon) (x y : State) (r : List Record) (b : Bool) → Includes room (on_exchange (begun site kind canon) x) r y b
      → Leaves_head kind x r y b
  inside_head room kind canon x y r b h included =
      head_then x.exchange (begun site kind canon x.exchange) y.exchange (begun_head kind canon x.exchange) (h.1 (within_begun site kind canon x.exchange included))

  left_head : (x y z : Exchange) → SameHead x y → Leaves y z → SameHead x z
  left_head x y z same left = (sym (ap (λ e. e.status) left.1) ∙ same.0, sym (ap (λ e. e.fields) left.1) ∙ same.1)

  opens : (kind : Kind) → Opens site Includes kind
  opens kind room canon = record {
    stays = λ x. (λ _. refl, λ _. (refl, refl));
    ends = λ x y z r h left. (
      λ _. same_dispatches site kind canon x.exchange y.exchange z (h.0 refl) left,
      λ within. left_head x.exchange y.exchange z (inside_head room kind canon x y r true h (within_inner kind x.exchange within)) left,
    );
    breaks = λ x y r h. (λ b. not_true b, λ within. inside_head room kind canon x y r false h (within_inner kind x.exchange within));
  }

  law : Steps site Includes
  law = record {
    stays = λ room x b. (λ _. refl, λ _. (refl, refl));
    joins = λ room x y z r s b one two. (
      λ came. two.0 came ∙ one.0 refl,
      λ within. head_then x.exchange y.exchange z.exchange (one.1 within) (two.1 (still_within x.exchange y.exchange (one.0 refl) within)),
    );
    keeps = λ room x kept own. (λ _. refl, λ _. (refl, refl));
    makes = λ room x change own. let same = made_unchanged change x.exchange in (λ _. same.0.dispatches, same.1);
    empties = λ room x. let same = emptied_unchanged x.exchange in (λ _. same.0.dispatches, same.1);
    breaks = λ room x place turn step e left serving changes. let same = called_unchanged x.exchange e changes in (λ _. same.0.dispatches, same.1);
    serves = λ room x place turn step e left serving changes. let same = away_unchanged x place step e changes in (λ _. same.0.dispatches, same.1);
    destroys = λ room x place b serving. (λ _. refl, λ _. (refl, refl));
    forwards = opens kinds.Forward;
    includes = opens kinds.Include;
  }

  filters : FilterSteps site Includes
  filters = record {
    before = λ room place x gate e b left changes. let same = called_unchanged x.exchange e changes in (λ _. same.0.dispatches, same.1);
    after = λ room place x done e b changes. let same = unchanged x.exchange e changes in (λ _. same.0.dispatches, same.1);
  }

  pub includes_keep : IncludesKeep site
  includes_keep room kind canon x y r result included h =
      tree_gives site Includes law (within_keeps site Includes law filters) (Leaves_head kind) room kind canon
      (λ left. record {
        stays = λ x _. (refl, refl);
        ends = λ x y z r h leaves included. left_head x.exchange y.exchange z (inside_head left kind canon x y r true h included) leaves;
        breaks = λ x y r h included. inside_head left kind canon x y r false h included;
      }) x y r result h included
