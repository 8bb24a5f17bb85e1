use Rattle.scale_info_bytes.proofs.Options.{none_on}
use Rattle.scale_info_table_metadata.proofs.Forms.{no_option}
use Rattle.scale_info_table_metadata.proofs.metadata.after_word_in_option.Goals as goal

pub returns-clause-none : goal.returns-clause-none
returns-clause-none c =
    none_on c.after_word_in_string.result (λ none. no_option c.in_ok-after_some.ensures.some none)
    c.after_word_in_string.ensures.none
