use Rattle.casper_model.proofs.Computed.{outcome_dropped, turn_before_the_finish, asker_that_departed, frozen_pages, pages_of_others_are_not_frozen, pages_are_counted, one_write_out_at_a_time, no_write_out_in_doubt, doubt_before_its_finish, sealed_by_an_asker, member_that_joins_again, no_further_version, first_noted_loss, mark_of_first_noted_loss, fallen_client_vanishes}
use Rattle.casper_model.proofs.rows.rows_of_frozen_associations.Goals as goal

pub returns-clause-outcome_dropped : goal.returns-clause-outcome_dropped
returns-clause-outcome_dropped c = outcome_dropped

pub returns-clause-turn_before_the_finish : goal.returns-clause-turn_before_the_finish
returns-clause-turn_before_the_finish c = turn_before_the_finish

pub returns-clause-asker_departed : goal.returns-clause-asker_departed
returns-clause-asker_departed c = asker_that_departed

pub returns-clause-frozen_pages : goal.returns-clause-frozen_pages
returns-clause-frozen_pages c = frozen_pages

pub returns-clause-pages_of_others : goal.returns-clause-pages_of_others
returns-clause-pages_of_others c = pages_of_others_are_not_frozen

pub returns-clause-pages_counted : goal.returns-clause-pages_counted
returns-clause-pages_counted c = pages_are_counted

pub returns-clause-one_at_a_time : goal.returns-clause-one_at_a_time
returns-clause-one_at_a_time c = one_write_out_at_a_time

pub returns-clause-none_in_doubt : goal.returns-clause-none_in_doubt
returns-clause-none_in_doubt c = no_write_out_in_doubt

pub returns-clause-doubt_before_finish : goal.returns-clause-doubt_before_finish
returns-clause-doubt_before_finish c = doubt_before_its_finish

pub returns-clause-sealed_by_an_asker : goal.returns-clause-sealed_by_an_asker
returns-clause-sealed_by_an_asker c = sealed_by_an_asker

pub returns-clause-joins_again : goal.returns-clause-joins_again
returns-clause-joins_again c = member_that_joins_again

pub returns-clause-worn : goal.returns-clause-worn
returns-clause-worn c = no_further_version

pub returns-clause-first_noted : goal.returns-clause-first_noted
returns-clause-first_noted c = first_noted_loss

pub returns-clause-mark_of_first_noted : goal.returns-clause-mark_of_first_noted
returns-clause-mark_of_first_noted c = mark_of_first_noted_loss

pub returns-clause-fallen_vanishes : goal.returns-clause-fallen_vanishes
returns-clause-fallen_vanishes c = fallen_client_vanishes
