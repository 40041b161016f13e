mod WorkerLaws
mod TaskLaws
mod CrossingLaws
