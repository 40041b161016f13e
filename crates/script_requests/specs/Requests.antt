-- What the lines of a script ask for.
use Rattle.std.specs.Prelude.{Bool, true, false}
use Rattle.script_requests.specs.declared.requests.Request.{Request}
use Rattle.script_requests.specs.declared.requests.Request.TheVariants.{Extended}

-- a request that only the extended form has
abbrev pub is_extended : Request → Bool
is_extended (Extended _) = true
is_extended _ = false
