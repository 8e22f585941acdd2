mod Whole
mod EveryFork
mod LogLists
mod SomeLog
mod EachRun
