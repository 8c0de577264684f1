-- What a request of the program asks for.
use Rattle.std.specs.Prelude.{None, Option, Some, codes, if◌then◌else◌, option_map}
use Rattle.std.specs.Borrow.{Bor}
use Rattle.std.specs.Str.{bytes_eq}
use Rattle.program_io.specs.Texts.{Text}
use Rattle.program_io.specs.Legible.{told_name}
use Rattle.explain.specs.Requests.{Asked, Form, avoided, clocks, explanation, form_of, help, nothing, steps, version}
use Rattle.explain.specs.declared.answer.WantedOutput.{WantedOutput}
use Rattle.explain.specs.declared.answer.WantedOutput.TheVariants.{Avoided, Clocks, Explanation, Steps}
use Rattle.explain.specs.declared.extent.Extent.{Extent}
use Rattle.explain.specs.declared.request.Request as request
use Rattle.explain.specs.declared.request.Request.TheVariants as r

-- the bytes of a name, where there is one
abbrev pub file_bytes : Option (Bor Text) → Option Text
file_bytes file = option_map (λ f. f.now) file

-- the form in which a text is told of, by the name of its file, where there is one
abbrev pub form_with : Option (Bor Text) → Extent → Form
form_with file extent = form_of extent (file_bytes file)

-- the name of a file as it is told, if there is one
abbrev pub told_file : Option (Bor Text) → Option Text
told_file file = option_map (λ f. told_name f.now) file

-- the form in which a text is told of that is read from this file, if one is named
abbrev pub form_named : Option (Bor Text) → Extent → Form
form_named file extent = form_of extent (told_file file)

-- what a word asks for of a text, if it does
abbrev pub wanted_by_word : Text → Option WantedOutput
wanted_by_word word =
    if bytes_eq word (codes "run") then Some Explanation
    else (if bytes_eq word (codes "steps") then Some Steps
    else (if bytes_eq word (codes "avoid") then Some Avoided
    else (if bytes_eq word (codes "clock") then Some Clocks else None)))

-- what is asked for where this is wanted of a text
abbrev pub asked_for : WantedOutput → Form → Asked
asked_for Explanation form = explanation form
asked_for Steps form = steps form
asked_for Avoided form = avoided form
asked_for Clocks form = clocks form

-- what the request asks for
abbrev pub requested : request.Request → Asked
requested (r.Text wanted extent file) = asked_for wanted (form_named file extent)
requested r.Help = help
requested r.Version = version
requested r.Usage = nothing
