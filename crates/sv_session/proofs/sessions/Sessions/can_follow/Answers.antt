use Rattle.std.proofs.Common.{◌≡◌, ◌+◌, sym, ◌∙◌, ap, arith}
use Rattle.sv_session.specs.Store.{Store, number_of}
use Rattle.sv_session.proofs.RestoreLemmas.{can_follow, copied_not_none, given_as, is_last, is_unnamed, none_copied, none_if_not_some, some_not_none}
use Rattle.sv_session.proofs.StoreLemmas.{store_seen}
use Rattle.sv_session.proofs.sessions.Sessions.can_follow.Goals as goal

pub returns-then-is_some : goal.returns-then-is_some
returns-then-is_some c = (
  λ wrong. absurd (cc),
  λ follows.
      let next : c.in-Some.below + 1 ≡ c.args.session.now.number = omega (arith, c.in-Some.ensures.0, c.in-Some.ensures.1, c.number.ensures) in
      absurd (copied_not_none c.after.result _ c.after.ensures (sym c.is_some.ensures ∙ c.if-is_some.true)
      (is_last c.args.self.now.store c.args.session.now follows c.in-Some.below next)),
)

pub returns-then-is_some-2 : goal.returns-then-is_some-2
returns-then-is_some-2 c = (
  λ wrong. absurd (cc),
  λ follows.
      absurd (some_not_none c.find.result (sym c.is_some-2.ensures ∙ c.if-is_some-2.true)
      (c.find.ensures ∙ (ap (λ id. number_of id c.args.self.now.store) (c.as_bytes.ensures.value ∙ c.id.ensures) ∙ is_unnamed c.args.self.now.store c.args.session.now follows))),
)

pub returns-then-number-self : goal.returns-then-number-self
returns-then-number-self c =
    let next : c.in-Some.below + 1 ≡ c.args.session.now.number = omega (arith, c.in-Some.ensures.0, c.in-Some.ensures.1, c.number.ensures) in
    let serial : c.self.inside.serial ≡ c.args.self.now.store.serial = ap (λ (s : Store). s.serial) (store_seen c.self.view_is) in (
      λ given.
          can_follow c.args.self.now.store c.args.session.now c.in-Some.below next
          (none_copied c.after.result _ c.after.ensures (sym c.is_some.ensures ∙ c.if-is_some.false))
          (ap (λ id. number_of id c.args.self.now.store) (sym c.id.ensures ∙ sym c.as_bytes.ensures.value)
          ∙ (sym c.find.ensures ∙ none_if_not_some c.find.result (sym c.is_some-2.ensures ∙ c.if-is_some-2.false)))
          (omega (arith, c.if-number-self.true, c.number-2.ensures, serial))
          (given_as c.self.inside.serial c.args.self.now.store.serial c.id-then-number-self.result.now c.args.session.now.id serial c.id-then-number-self.ensures (c.is_given.ensures.0 given)),
      λ follows.
          c.is_given.ensures.1
          (given_as c.args.self.now.store.serial c.self.inside.serial c.args.session.now.id c.id-then-number-self.result.now (sym serial) (sym c.id-then-number-self.ensures) follows.given),
    )
