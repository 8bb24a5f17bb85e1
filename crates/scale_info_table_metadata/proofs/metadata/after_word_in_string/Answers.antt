use Rattle.scale_info_bytes.proofs.Options.{none_is, none_on}
use Rattle.scale_info_table_metadata.proofs.Forms.{no_word}
use Rattle.scale_info_table_metadata.proofs.metadata.after_word_in_string.Goals as goal

pub returns-in_err-bytes_of_string-clause-none : goal.returns-in_err-bytes_of_string-clause-none
returns-in_err-bytes_of_string-clause-none c =
    none_is c.from_residual.result (λ after s. c.in_err-bytes_of_string.ensures.none _ s)

pub returns-clause-none : goal.returns-clause-none
returns-clause-none c =
    none_on c.after_word.result (λ none. no_word c.in_ok-bytes_of_string.ensures.some none)
    c.after_word.ensures.none
