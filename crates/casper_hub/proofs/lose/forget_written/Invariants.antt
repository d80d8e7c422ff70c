use Rattle.std.proofs.Common.{◌≡◌, ℕ, cond, length, None}
use Rattle.casper_assoc.specs.Labelling.{is_writer, writer_of}
use Rattle.casper_hub.specs.Felling.{is_among}
use Rattle.casper_hub.specs.HubView.{frame_in}
use Rattle.casper_hub.proofs.lose.forget_written.Given as goal

-- the server has no frame of the pages that members with lesser numbers wrote
abbrev pub invariant-loop-number : goal.invariant-loop-number
invariant-loop-number l = record {
  rights : l.pages.rights ≡ l.initial.pages.rights;
  count : length l.pages.frames ≡ length l.initial.pages.frames;
  frames : (page : ℕ) → frame_in l.pages page
      ≡ cond (is_writer (is_among l.number l.members) (writer_of l.associations.labelling page)) None (frame_in l.initial.pages page);
}
