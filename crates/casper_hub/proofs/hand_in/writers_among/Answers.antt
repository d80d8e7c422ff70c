use Rattle.std.proofs.Common.{◌∙◌, ℕ, List, ◌&&◌, not, ap}
use Rattle.casper_words.specs.Crew.{has_member, crew_of}
use Rattle.casper_dir.specs.Rights.{writes_some}
use Rattle.casper_hub.proofs.Awaited.{members_of_both}
use Rattle.casper_hub.proofs.hand_in.writers_among.Goals as goal

pub returns : goal.returns
returns c =
    c.minus.ensures.members
    ∙ ap (λ (l : List ℕ). crew_of (λ client. has_member client c.args.members && not (has_member client l))) c.minus-others.ensures.members
    ∙ members_of_both c.args.members c.writers.result (writes_some c.args.pages.now.rights) c.writers.ensures.writers
