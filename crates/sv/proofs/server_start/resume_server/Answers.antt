use Rattle.std.proofs.Common.{ℕ, List, Ok, refl, subst}
use Rattle.sv.proofs.server_start.resume_server.Goals as goal
use Rattle.sv_listening.specs.Seeding.{GivesSeed}
use Rattle.sv_listening.specs.declared.seed.Seeding.{Seeding}

pub returns-in-Ok-start_with : goal.returns-in-Ok-start_with
returns-in-Ok-start_with g c =
    let Gives : Seeding → Type 0 = λ seeding. GivesSeed seeding c.in-Ok.configuration.seed (Ok c.in-Ok-seed_for.words) in (
      Ok c.in-Ok.configuration,
      c.in-Ok.ensures.finds,
      (
        Ok c.in-Ok-seed_for.words,
        subst Gives c.seeding_by-seeding.ensures
            (subst (λ (seed : List ℕ). GivesSeed c.seeding_by-seeding.result seed (Ok c.in-Ok-seed_for.words)) c.as_slice.ensures c.in-Ok-seed_for.ensures.gives),
        (c.in-Ok-found_in.found.suspension, c.in-Ok-start_with.ensures.0, c.in-Ok-start_with.ensures.1, refl),
      ),
    )
