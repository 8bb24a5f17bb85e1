use Rattle.std.proofs.Common.{[], refl}
use Rattle.scale_info_numberings.proofs.Reached.{reached_exactly}
use Rattle.scale_info_export.proofs.Headline.{chosen_types, kept_is_afresh, kept_is_numbered}
use Rattle.scale_info_export.proofs.Headline.{written_match}
use Rattle.scale_info_export.proofs.laws.headline.Goals as goal

pub returns-clause-only_text : goal.returns-clause-only_text
returns-clause-only_text c = λ p written. (
  λ bytes encodes. c.one_text.ensures.one p.kept bytes p.bytes encodes written.1,
  λ table encodes. (c.one_text.ensures.prefix_free table p.kept p.bytes p.bytes [] [] encodes written.1 refl).1,
)

pub returns-clause-chosen_types : goal.returns-clause-chosen_types
returns-clause-chosen_types c = chosen_types c.shape_and_references.ensures c.registered_afresh.ensures c.registrations_afresh.ensures

pub returns-clause-one_numbering : goal.returns-clause-one_numbering
returns-clause-one_numbering c = λ h p types accepted is written chosen.
    kept_is_numbered c.shape_and_references.ensures c.registered_afresh.ensures c.registrations_afresh.ensures h p accepted is written types chosen

pub returns-clause-reached_exactly : goal.returns-clause-reached_exactly
returns-clause-reached_exactly c = reached_exactly

pub returns-clause-registered_afresh : goal.returns-clause-registered_afresh
returns-clause-registered_afresh c = λ h p types afresh table accepted is written chosen x again.
    kept_is_afresh c.shape_and_references.ensures c.registered_afresh.ensures c.registrations_afresh.ensures h p accepted is written types chosen afresh table x again

pub returns-clause-match_exactly : goal.returns-clause-match_exactly
returns-clause-match_exactly c =
    written_match c.shape_and_references.ensures c.one_text.ensures.one
    (λ table other b x y. (c.one_text.ensures.prefix_free table other b b [] [] x y refl).1)
