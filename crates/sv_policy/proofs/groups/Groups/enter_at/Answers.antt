use Rattle.std.proofs.Common.{ap, cond, refl, sym, [], ◌∷◌, ◌++◌, ◌∙◌}
use Rattle.std.specs.Str.{bytes_eq}
use Rattle.sv_policy.proofs.Grouping.{patterns_more, patterns_stay, seen_pushed}
use Rattle.sv_policy.specs.Groups.{has_group, items_in, members_in}
use Rattle.sv_policy.proofs.groups.Groups.enter_at.Goals as goal

pub returns-then-is_known-clause-members : goal.returns-then-is_known-clause-members
returns-then-is_known-clause-members c = λ q.
    seen_pushed (items_in c.push_member.new.members q) (items_in c.args.self.now.members q) (bytes_eq q c.text-text.result.now) c.args.constraint (c.in_ok-push_member.ensures.items q)
    ∙ ap (λ text. members_in c.args.self.now.members q ++ cond (bytes_eq q text) (c.args.constraint.now ∷ []) []) c.text-text.ensures.value

pub returns-then-is_known-clause-patterns : goal.returns-then-is_known-clause-patterns
returns-then-is_known-clause-patterns c = λ had.
    patterns_stay (has_group c.args.self.now.members) (has_group c.push_member.new.members) c.args.self.now.patterns.items c.text-text.result.now c.in_ok-push_member.ensures.keys had
    c.args.self.now.patterns.items refl (sym c.contains_key-is_known.ensures ∙ c.if-is_known.true)

pub returns-clause-members : goal.returns-clause-members
returns-clause-members c = λ q.
    seen_pushed (items_in c.push_member.new.members q) (items_in c.args.self.now.members q) (bytes_eq q c.text-text.result.now) c.args.constraint (c.in_ok-push_member.ensures.items q)
    ∙ ap (λ text. members_in c.args.self.now.members q ++ cond (bytes_eq q text) (c.args.constraint.now ∷ []) []) c.text-text.ensures.value

pub returns-clause-patterns : goal.returns-clause-patterns
returns-clause-patterns c = λ had.
    patterns_more (has_group c.args.self.now.members) (has_group c.push_member.new.members) c.args.self.now.patterns.items c.text-text.result.now c.in_ok-push_member.ensures.keys had
    c.push.new.self.items c.args.pattern c.in_ok-push.ensures.items (sym c.text-text.ensures.value)
