use Rattle.std.proofs.Common.{ap, ◌∙◌, subst}
use Rattle.std.specs.Prelude.{Err}
use Rattle.casper_core.specs.CoreView.{told_by}
use Rattle.casper_core.proofs.Commits.{Ended, ended_ok, ended_full, ended_disk, ended_doubt}
use Rattle.casper_core.proofs.write_out.commit.Goals as goal

pub returns-in-Ok-clause-commits : goal.returns-in-Ok-clause-commits
returns-in-Ok-clause-commits g c = λ told.
    let before = told_by g.V.Vault.image g.V.Vault.version g.V.Vault.room g.V.Vault.doubt c.args.vault.now in
    let after = told_by g.V.Vault.image g.V.Vault.version g.V.Vault.room g.V.Vault.doubt c.commit.new.self in
    let ensured = c.commit.ensures in
    let ended : Ended c.commit.result before after c.args.changes.now = record {
      answer = ensured.answer;
      version = ensured.version;
      image = ensured.image told;
      room = ensured.room;
      doubtful = ensured.doubtful;
      doubt = ensured.doubt told;
      same_version = ensured.same_version;
      same_image = ensured.same_image told;
      same_room = ensured.same_room;
      worn = ensured.worn;
      full = ensured.full;
      unchanged = ensured.unchanged;
    } in
    ended_ok before after c.args.changes.now c.in-Ok.version c.requires.sure (subst (λ result. Ended result before after c.args.changes.now) c.in-Ok.is ended)

pub returns-in-Err-Full-clause-commits : goal.returns-in-Err-Full-clause-commits
returns-in-Err-Full-clause-commits g c = λ told.
    let before = told_by g.V.Vault.image g.V.Vault.version g.V.Vault.room g.V.Vault.doubt c.args.vault.now in
    let after = told_by g.V.Vault.image g.V.Vault.version g.V.Vault.room g.V.Vault.doubt c.commit.new.self in
    let ensured = c.commit.ensures in
    let ended : Ended c.commit.result before after c.args.changes.now = record {
      answer = ensured.answer;
      version = ensured.version;
      image = ensured.image told;
      room = ensured.room;
      doubtful = ensured.doubtful;
      doubt = ensured.doubt told;
      same_version = ensured.same_version;
      same_image = ensured.same_image told;
      same_room = ensured.same_room;
      worn = ensured.worn;
      full = ensured.full;
      unchanged = ensured.unchanged;
    } in
    ended_full before after c.args.changes.now c.in-Err-Full.need c.in-Err-Full.free c.requires.sure (subst (λ result. Ended result before after c.args.changes.now) (c.in-Err-Full.is ∙ ap Err c.in-Err-Full.field-0-is) ended)

pub returns-in-Err-Disk-clause-commits : goal.returns-in-Err-Disk-clause-commits
returns-in-Err-Disk-clause-commits g c = λ told.
    let before = told_by g.V.Vault.image g.V.Vault.version g.V.Vault.room g.V.Vault.doubt c.args.vault.now in
    let after = told_by g.V.Vault.image g.V.Vault.version g.V.Vault.room g.V.Vault.doubt c.commit.new.self in
    let ensured = c.commit.ensures in
    let ended : Ended c.commit.result before after c.args.changes.now = record {
      answer = ensured.answer;
      version = ensured.version;
      image = ensured.image told;
      room = ensured.room;
      doubtful = ensured.doubtful;
      doubt = ensured.doubt told;
      same_version = ensured.same_version;
      same_image = ensured.same_image told;
      same_room = ensured.same_room;
      worn = ensured.worn;
      full = ensured.full;
      unchanged = ensured.unchanged;
    } in
    ended_disk before after c.args.changes.now c.requires.sure (subst (λ result. Ended result before after c.args.changes.now) (c.in-Err-Disk.is ∙ ap Err c.in-Err-Disk.field-0-is) ended)

pub returns-in-Err-Doubt-clause-commits : goal.returns-in-Err-Doubt-clause-commits
returns-in-Err-Doubt-clause-commits g c = λ told.
    let before = told_by g.V.Vault.image g.V.Vault.version g.V.Vault.room g.V.Vault.doubt c.args.vault.now in
    let after = told_by g.V.Vault.image g.V.Vault.version g.V.Vault.room g.V.Vault.doubt c.commit.new.self in
    let ensured = c.commit.ensures in
    let ended : Ended c.commit.result before after c.args.changes.now = record {
      answer = ensured.answer;
      version = ensured.version;
      image = ensured.image told;
      room = ensured.room;
      doubtful = ensured.doubtful;
      doubt = ensured.doubt told;
      same_version = ensured.same_version;
      same_image = ensured.same_image told;
      same_room = ensured.same_room;
      worn = ensured.worn;
      full = ensured.full;
      unchanged = ensured.unchanged;
    } in
    ended_doubt before after c.args.changes.now (subst (λ result. Ended result before after c.args.changes.now) (c.in-Err-Doubt.is ∙ ap Err c.in-Err-Doubt.field-0-is) ended)
