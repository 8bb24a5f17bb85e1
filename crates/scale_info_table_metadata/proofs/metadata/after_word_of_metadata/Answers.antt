use Rattle.scale_info_table_metadata.specs.Metadata.{alone, in_string, in_option}
use Rattle.scale_info_table_metadata.proofs.Forms.{no_metadata}
use Rattle.scale_info_table_metadata.proofs.metadata.after_word_of_metadata.Goals as goal

pub returns-in-Some-clause-some : goal.returns-in-Some-clause-some
returns-in-Some-clause-some c = alone c.in-Some.ensures.some

pub returns-in-Some-after_word_in_string-clause-some :
    goal.returns-in-Some-after_word_in_string-clause-some
returns-in-Some-after_word_in_string-clause-some c =
    in_string c.in-Some-after_word_in_string.ensures.some

pub returns-in-Some-after_word_in_option-clause-some :
    goal.returns-in-Some-after_word_in_option-clause-some
returns-in-Some-after_word_in_option-clause-some c =
    in_option c.in-Some-after_word_in_option.ensures.some

pub returns-in-None-clause-none : goal.returns-in-None-clause-none
returns-in-None-clause-none c =
    no_metadata c.in_default.ensures.none c.in_default-after_word_in_string.ensures.none
    c.in-None.ensures.none
