use Rattle.scale_info_numberings.proofs.Extensions.{extension_of_numbering, numbering_of_extension}
use Rattle.scale_info_numberings.proofs.laws.numbering_extends_nothing.Goals as goal

pub returns : goal.returns
returns g c = λ S R L. (extension_of_numbering S R L, numbering_of_extension S R L)
