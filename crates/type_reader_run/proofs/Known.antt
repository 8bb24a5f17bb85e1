-- What is written for an input that is known, or is not.
use Rattle.std.proofs.Common.{◌≡◌, ℕ, List, Bool, Option, None, Some, IfSome, inr, subst}
use Rattle.std.specs.Io.KnownBytes.{Appends}
use Rattle.type_reader_io.specs.declared.error.ReaderError.{ReaderError}
use Rattle.type_reader_io.specs.declared.command.Request.{Request}
use Rattle.type_reader_run.specs.Outputs.{HasOutput, MakesOf, WritesPrefix, WritesWhole}
use Rattle.type_reader_run.specs.Refusals.{IsMakingError, IsRequestError}
use Rattle.type_reader_run.specs.Tables.{input_bytes, is_hexadecimal}
use Rattle.type_table_io.specs.Reports.{AppendsPrefix}

-- what is made of the bytes of an input is what the input has
has_output :
    (request : Request) (input : List ℕ) (form : Bool) (bytes output notes : List ℕ)
    → bytes ≡ input_bytes input → form ≡ is_hexadecimal input
    → MakesOf request form bytes output notes → HasOutput request input output notes
has_output request input form bytes output notes is is_form made =
    subst (λ f. MakesOf request f (input_bytes input) output notes) is_form
    (subst (λ b. MakesOf request form b output notes) is made)

-- the output was written
pub written :
    (request : Request) (old new : Option (List ℕ)) (input : List ℕ) (known : Option (List ℕ))
    (form : Bool) (bytes output notes : List ℕ)
    → IfSome known (λ b. input ≡ b) → bytes ≡ input_bytes input → form ≡ is_hexadecimal input
    → MakesOf request form bytes output notes → Appends old new output
    → WritesWhole request known old new notes
written request old new input known form bytes output notes whole is is_form made appends =
    record {
      whole = input;
      is_whole = whole;
      writes =
          record {
            output = output;
            has_output = has_output request input form bytes output notes is is_form made;
            appends = appends;
          };
    }

-- a prefix of the output was written
pub written_in_part :
    (request : Request) (old new : Option (List ℕ)) (input : List ℕ) (known : Option (List ℕ))
    (form : Bool) (bytes output notes : List ℕ)
    → IfSome known (λ b. input ≡ b) → bytes ≡ input_bytes input → form ≡ is_hexadecimal input
    → MakesOf request form bytes output notes → AppendsPrefix old new output
    → IfSome known (WritesPrefix request old new)
written_in_part request old new input None form bytes output notes whole is is_form made appends =
    tt
written_in_part request old new input (Some b) form bytes output notes whole is is_form made appends =
    record {
      output = output;
      notes = notes;
      has_output =
          subst (λ i. HasOutput request i output notes) whole
          (has_output request input form bytes output notes is is_form made);
      appends = appends;
    }

-- there is no output for the bytes of a known input
pub not_made :
    (request : Request) (input : List ℕ) (known : Option (List ℕ)) (bytes : List ℕ)
    (error : ReaderError)
    → IfSome known (λ b. input ≡ b) → bytes ≡ input_bytes input
    → IsMakingError request bytes error
    → IfSome known (λ b. IsRequestError request b error)
not_made request input None bytes error whole is cause = tt
not_made request input (Some b) bytes error whole is cause =
    inr
    (subst (λ i. IsMakingError request (input_bytes i) error) whole
    (subst (λ bs. IsMakingError request bs error) is cause))
